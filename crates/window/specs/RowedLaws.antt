-- Rows put one after another: the row of a place, and those of all tags below one more.
use Rattle.std.specs.Prelude.{◌≡◌, List, [], ◌∷◌, ◌++◌, ℕ, suc, ◌+◌, ◌*◌, length, get_or, set}
use Rattle.std.proofs.Math.Path.{refl}
use Rattle.std.proofs.Common.{sym, ◌∙◌, add-one, arith, length-append, eq-eqb, ne_eqb}
use Rattle.std.proofs.Math.Seq.{length-sets}
use Rattle.base.specs.Lists.{joined}
use Rattle.base.specs.ListLaws.{joined_more}
use Rattle.layout.specs.declared.settings.Settings.{Settings}
use Rattle.layout.specs.declared.payload.Payload.{Payload}
use Rattle.layout.specs.Sizes.{row_len}
use Rattle.layout.specs.Fields.{tag_word}
use Rattle.layout.specs.Parts.{slot_word}
use Rattle.layout.specs.Payload.{payload_in}
use Rattle.layout.specs.Places.{block_of, slot_of}
use Rattle.calls.specs.Calls.{Row}
use Rattle.calls.specs.Walk.{Reader}
use Rattle.calls.specs.LookBack.{row_words}
use Rattle.calls.specs.Window.{shown_row}
use Rattle.queries.specs.RowLaws.{rows_append}
use Rattle.window.specs.declared.span.Span.{Span}
use Rattle.window.specs.Noted.{reader_of, record_at, row_at, best_rows, Puts, Rowed}

add_two : (n : ℕ) → n + 2 ≡ suc (suc n)
add_two n = omega arith

module _ (s : Settings) (R : Reader) where
  -- ---- the row of a place: none of place 0,
  pub no_row : (p : ℕ) (before : List ℕ) (given : ℕ) → p ≡ 0 → Puts before given (row_at s R p) given before
  unfolding row_at
  no_row p before given e = rw (eq-eqb p 0 e) (record { counts = omega arith; most = omega arith; words = refl })

  -- else three words.
  row_is : (p : ℕ) → (p ≡ 0 → ⊥) → row_at s R p ≡ shown_row (record_at s R p) ∷ []
  unfolding row_at
  row_is p h = rw (ne_eqb p 0 h)

  words_at : (p : ℕ) {n k : ℕ} {block : List ℕ} {tag : ℕ} {told : Payload} → n ≡ block_of s p → block ≡ R.block n → k ≡ slot_of s p
      → tag ≡ slot_word block k tag_word → told ≡ payload_in block k → ◌≡◌ {A = Row} (record { tag = tag; payload = told }) (shown_row (record_at s R p))
  unfolding record_at
  words_at p e f g i j = rw (i, j, f, g, e)

  pub one_row : (p : ℕ) (before : List ℕ) (given : ℕ) → (p ≡ 0 → ⊥) → {n k : ℕ} {block : List ℕ} {tag : ℕ} {told : Payload}
      → n ≡ block_of s p → block ≡ R.block n → k ≡ slot_of s p → tag ≡ slot_word block k tag_word → told ≡ payload_in block k
      → Puts before given (row_at s R p) (given + 1)
      (set (set (set before (row_len * given) tag) (row_len * given + 1) told.reading) (row_len * given + 2) told.since)
  one_row p before given h e f g i j =
      rw (row_is p h, ← words_at p e f g i j, add-one (row_len * given), add_two (row_len * given))
      (record { counts = omega arith; most = omega arith; words = refl })

-- ---- the rows of the tags so far
module _ (w : Span) (best before : List ℕ) where
  abbrev s : Settings
  s = w.opened.head.settings

  abbrev R : Reader
  R = reader_of w

  pub rowed_none : Rowed w best 0 before 0 before
  unfolding best_rows joined
  rowed_none = record { counts = refl; most = omega arith; words = refl }

  rows_more : (tag : ℕ) → best_rows s R best (tag + 1) ≡ best_rows s R best tag ++ row_at s R (get_or best tag 0)
  unfolding best_rows
  rows_more tag = joined_more (λ t. row_at s R (get_or best t 0)) tag

  pub rowed_more : {tag given n p : ℕ} {mid after : List ℕ} → Rowed w best tag before given mid → p ≡ get_or best tag 0
      → Puts mid given (row_at s R p) n after → Rowed w best (tag + 1) before n after
  rowed_more {tag} {given} {n} {p} {mid} {after} r e q =
      let e' : 0 + length (best_rows s R best tag) ≡ length (best_rows s R best tag) = omega arith in
      let behind = rw e' at (rows_append before 0 (best_rows s R best tag) (row_at s R (get_or best tag 0))) in
      let q' : Puts mid given (row_at s R (get_or best tag 0)) n after = rw e at q in
      record {
        counts = rw (rows_more tag) (simp length-append (omega (arith, q'.counts, r.counts)));
        most = omega (arith, q'.most, r.most);
        words = q'.words ∙ rw (r.words, r.counts, rows_more tag) (sym behind);
      }

  pub rowed_length : {tag n : ℕ} {after : List ℕ} → Rowed w best tag before n after → length after ≡ length before
  rowed_length {tag} r = rw r.words (length-sets before 0 (row_words (best_rows s R best tag)))
