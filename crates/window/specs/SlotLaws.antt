-- One slot, as the code tests it: a block that is read, a record that stood, the later of two, and what noting the slot comes to.
use Rattle.std.specs.Prelude.{◌≡◌, Bool, true, false, ltb, leb, get_or, set, Result, Ok, Err}
use Rattle.std.proofs.Math.Path.{sym, ap}
use Rattle.std.proofs.Common.{◌∙◌, mod-lt, arith}
use mathlib.Core.List.{List, [], ◌∷◌, ◌++◌, append_assoc}
use Prim.Native.Nat.{ℕ, ◌+◌, ◌-◌, ◌≤◌, ◌<◌}
use borrow.Author.Tests.{eq-eqb, ne_eqb, lt-ltb, le-ltb, le-leb, lt-leb}
use Rattle.base.specs.Lists.{joined}
use Rattle.base.specs.ListLaws.{joined_more, those_more, those_less}
use Rattle.layout.specs.declared.head.Head.{Head}
use Rattle.layout.specs.declared.settings.Settings.{Settings}
use Rattle.layout.specs.Settings.{Within}
use Rattle.layout.specs.Fields.{opened_word, closed_word, tag_word, from_word, to_word}
use Rattle.layout.specs.Parts.{block_part, block_word, slot_word}
use Rattle.layout.specs.Places.{block_of, slot_of, place_of}
use Rattle.layout.specs.Spot.{Spot}
use Rattle.calls.specs.Walk.{Reader}
use Rattle.calls.specs.LookBack.{reader}
use Rattle.calls.specs.Range.{PlacedRecord, record_in, is_read, read_records, stood_in}
use Rattle.queries.specs.declared.unsound.Unsound.{Unsound}
use Rattle.window.specs.declared.span.Span.{Span}
use Rattle.window.specs.Noted.{reader_of, records_to, stood, slots_stood, record_at, noted, unknown, NotedTo, NotesTo, later_place}
use Rattle.window.specs.NotedLaws.{unknown_last, noted_wider, noted_more, slot_met}

-- ---- a block that is read
module _ (first last : ℕ) (block : List ℕ) where
  pub not_opened : {w : ℕ} → w ≡ block_word block opened_word → last < w → leb w last ≡ is_read first last block
  unfolding is_read
  not_opened e h = rw (← e, lt-leb _ last h)

  pub by_closed : {o w : ℕ} → o ≡ block_word block opened_word → o ≤ last → w ≡ block_word block closed_word → ltb first w ≡ is_read first last block
  unfolding is_read
  by_closed e h f = rw (f, le-leb (block_word block opened_word) last (rw e at h))

-- ---- a record that stood
module _ (first last : ℕ) (block : List ℕ) (k : ℕ) {from to : ℕ}
    (is-from : from ≡ slot_word block k from_word) (is-to : to ≡ slot_word block k to_word) (s : Settings) (n : ℕ) where
  pub from_later : last < from → false ≡ stood_in first last (record_in s n block k)
  unfolding stood_in
  from_later h = rw (lt-leb (slot_word block k from_word) last (rw is-from at h))

  pub to_before : from ≤ last → to ≤ first → false ≡ stood_in first last (record_in s n block k)
  unfolding stood_in
  to_before g h = rw (le-leb (slot_word block k from_word) last (rw is-from at g), le-ltb first (slot_word block k to_word) (rw is-to at h))

  pub by_both : from ≤ last → first < to → ltb from to ≡ stood_in first last (record_in s n block k)
  unfolding stood_in
  by_both g h = rw (is-from, is-to, le-leb (slot_word block k from_word) last (rw is-from at g), lt-ltb first (slot_word block k to_word) (rw is-to at h))

-- ---- the later of two
pub slot_below : {s : Settings} → Within s → (p : ℕ) → slot_of s p < s.block
slot_below {s} w p = mod-lt (p - 1) (omega (arith, w.least))

module _ (s : Settings) (R : Reader) (p place from : ℕ) where
  pub none_yet : p ≡ 0 → place ≡ later_place s R p place from
  unfolding later_place
  none_yet e = rw (eq-eqb p 0 e)

  module _ {n k : ℕ} {block : List ℕ} {w : ℕ} (some : p ≡ 0 → ⊥) (is-n : n ≡ block_of s p) (is-block : block ≡ R.block n)
      (is-k : k ≡ slot_of s p) (is-w : w ≡ slot_word block k from_word) where
    word_at : w ≡ (record_at s R p).from
    unfolding record_at
    word_at = is-w ∙ rw (is-block, is-k, is-n)

    pub as_late : w ≤ from → place ≡ later_place s R p place from
    unfolding later_place
    as_late h = rw (ne_eqb p 0 some, le-leb (record_at s R p).from from (rw word_at at h))

    pub still_later : from < w → p ≡ later_place s R p place from
    unfolding later_place
    still_later h = rw (ne_eqb p 0 some, lt-leb (record_at s R p).from from (rw word_at at h))

-- ---- a slot noted
module _ (w : Span) (n k : ℕ) where
  abbrev s : Settings
  s = w.opened.head.settings

  abbrev R : Reader
  R = reader_of w

  abbrev stood_here : PlacedRecord → Bool
  stood_here = stood_in w.first w.last

  abbrev here : PlacedRecord
  here = record_in s n (R.block n) k

  -- one record more
  records_more : records_to w.first w.last s R n (k + 1) ≡ records_to w.first w.last s R n k ++ (here ∷ [])
  unfolding records_to
  records_more =
      let slots : ℕ → List PlacedRecord = λ j. record_in s n (R.block n) j ∷ [] in
      let all = read_records w.first w.last s R (n - 1) in
      ap (λ (l : List PlacedRecord). all ++ l) (joined_more slots k) ∙ sym (append_assoc all (joined slots k) (slots k))

  stood_more : stood_here here ≡ true
      → slots_stood w n (k + 1) ≡ slots_stood w n k ++ (here ∷ [])
  stood_more e = ap (stood w.first w.last) records_more ∙ those_more stood_here (records_to w.first w.last s R n k) e

  stood_same : stood_here here ≡ false
      → slots_stood w n (k + 1) ≡ slots_stood w n k
  stood_same e = ap (stood w.first w.last) records_more ∙ those_less stood_here (records_to w.first w.last s R n k) e

  module _ {best : List ℕ} (so_far : NotedTo w n k best) {block : List ℕ} (is-part : block ≡ block_part s w.opened.store.now n)
      {b : Bool} (test : (s : Settings) (n : ℕ) → b ≡ stood_in w.first w.last (record_in s n block k)) where
    abbrev After : Result (Unit {0}) Unsound → List ℕ → Type 0
    After = NotesTo w n (k + 1)

    -- It is the walk's block.
    is-block : block ≡ R.block n
    unfolding reader
    is-block = is-part ∙ ap (λ (h : Head). block_part h.settings w.opened.store.now n) w.opened.readable.is

    -- it did not stand,
    pub slot_passed : b ≡ false → After (Ok tt) best
    slot_passed e =
        let d : stood_here here ≡ false = rw is-block at (sym (test s n) ∙ e) in
        noted {best = best} (rw (stood_same d) (noted_wider (omega arith) so_far))

    module _ (e : b ≡ true) {tag : ℕ} (is-tag : tag ≡ slot_word block k tag_word) where
      -- it stood with a tag of D or more,
      pub slot_unknown : s.tags ≤ tag → After (Err (record {})) best
      slot_unknown h =
          let d : stood_here here ≡ true = rw is-block at (sym (test s n) ∙ e) in
          let i : tag ≡ slot_word (R.block n) k tag_word = rw is-block at is-tag in
          unknown (rw (stood_more d) (unknown_last s.tags (slots_stood w n k) here (rw i at h)))

      -- and it is noted.
      pub slot_noted : Spot s n k → tag < s.tags → {from place x : ℕ}
          → from ≡ slot_word block k from_word → place ≡ place_of s n k → x ≡ later_place s R (get_or best tag 0) place from → After (Ok tt) (set best tag x)
      slot_noted spot h {from} {place} {x} is-from is-place later =
          let d : stood_here here ≡ true = rw is-block at (sym (test s n) ∙ e) in
          let i : tag ≡ slot_word (R.block n) k tag_word = rw is-block at is-tag in
          let f : from ≡ slot_word (R.block n) k from_word = rw is-block at is-from in
          noted {best = set best tag x} (rw (stood_more d)
          (noted_more so_far here (slot_met R spot) (omega arith) (rw i at h) w.opened.readable.sound.within.tags i (rw (is-place, f) at later)))
