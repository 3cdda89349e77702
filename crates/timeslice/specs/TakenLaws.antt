-- Rows taken one after another are taken in one.
use Rattle.std.specs.Prelude.{◌≡◌, refl, Bool, true, false, ◌&&◌, List, ◌++◌, ℕ, zero, suc, ◌+◌, ◌*◌, ◌≤◌, ◌<◌, leb, length, set, Result, Ok, Err}
use Rattle.std.proofs.Common.{sym, ◌∙◌, arith, length-append}
use Rattle.std.proofs.Math.Numerals.{add-one}
use borrow.Author.Tests.{lt-ltb, le-ltb, le-leb, lt-leb}
use Rattle.base.specs.Branch.{lt?}
use Rattle.layout.specs.declared.payload.Payload.{Payload}
use Rattle.layout.specs.Sizes.{row_len}
use Rattle.layout.specs.Fields.{tag_word, from_word, to_word}
use Rattle.layout.specs.Parts.{slot_word}
use Rattle.layout.specs.Payload.{payload_in}
use Rattle.calls.specs.Calls.{Row}
use Rattle.calls.specs.Walk.{row_of, rows_of}
use Rattle.queries.specs.RowLaws.{rows_append}
use Rattle.queries.specs.declared.unsound.Unsound.{Unsound}
use Rattle.timeslice.specs.Taken.{Takes, all, many}

-- ---- one slot
add_two : (n : ℕ) → n + 2 ≡ suc (suc n)
add_two n = omega arith

and-false : (b : Bool) → (b && false) ≡ false
and-false true = refl
and-false false = refl

module _ (d : ℕ) (buffer : List ℕ) (given t : ℕ) (block : List ℕ) (k : ℕ) where
  -- a record that has ended, one that stands later, one too many,
  pub ended : {to : ℕ} → to ≡ slot_word block k to_word → to ≤ t → given ≤ d → Takes d buffer given (row_of t block k) (Ok given) buffer
  unfolding row_of
  ended e h f = rw (le-ltb t _ (rw e at h), and-false (leb (slot_word block k from_word) t)) (all {now = given} (omega arith) f refl)

  pub not_yet : {from : ℕ} → from ≡ slot_word block k from_word → t < from → given ≤ d → Takes d buffer given (row_of t block k) (Ok given) buffer
  unfolding row_of
  not_yet e h f = rw (lt-leb _ t (rw e at h)) (all {now = given} (omega arith) f refl)

  module _ {from to : ℕ} (e : from ≡ slot_word block k from_word) (g : from ≤ t) (e' : to ≡ slot_word block k to_word) (h : t < to) where
    pub no_room : d ≤ given → {e : Unsound} → Takes d buffer given (row_of t block k) (Err e) buffer
    unfolding row_of
    no_room f = rw (le-leb _ t (rw e at g), lt-ltb t _ (rw e' at h)) (many (omega arith))

    -- and one that is written.
    pub one_row : given < d → {tag : ℕ} {p : Payload} → tag ≡ slot_word block k tag_word → p ≡ payload_in block k
        → Takes d buffer given (row_of t block k) (Ok (given + 1))
        (set (set (set buffer (row_len * given) tag) (row_len * given + 1) p.reading) (row_len * given + 2) p.since)
    unfolding row_of
    one_row f p q = rw (le-leb _ t (rw e at g), lt-ltb t _ (rw e' at h), p, q, add-one (row_len * given), add_two (row_len * given))
        (all {now = given + 1} (omega arith) (omega arith) refl)

-- ---- the slots so far, and one more
module _ (d : ℕ) (buffer : List ℕ) (given : ℕ) where
  pub taken_more : {now : ℕ} {mid after : List ℕ} {r r' : List Row} {k : Result ℕ Unsound}
      → Takes d buffer given r (Ok now) mid → Takes d mid now r' k after → Takes d buffer given (r ++ r') k after
  taken_more {r = r} {r' = r'} (all e h q) (all {now = n} e' h' q') =
      all {now = n} (simp length-append (omega arith)) h' (q' ∙ rw (q, e) (sym (rows_append buffer given r r')))
  taken_more {r = r} {r' = r'} (all e h q) (many h') = many (simp length-append (omega arith))

pub taken_fits : {d given now : ℕ} {buffer after : List ℕ} {r : List Row} → Takes d buffer given r (Ok now) after → now ≤ d
taken_fits (all e h q) = h

pub taken_none : (d : ℕ) (buffer : List ℕ) (given t : ℕ) (block : List ℕ) → given ≤ d → Takes d buffer given (rows_of 0 t block) (Ok given) buffer
unfolding rows_of
taken_none d buffer given t block h = all {now = given} (omega arith) h refl

-- More slots have no fewer rows, so that too many stay too many.
rows_grow : (t : ℕ) (block : List ℕ) (i b : ℕ) → i ≤ b → length (rows_of i t block) ≤ length (rows_of b t block)
unfolding rows_of
rows_grow t block i zero h = let e : i ≡ 0 = omega arith in rw e (omega arith)
rows_grow t block i (suc b) h = lt? b i
    (λ l. let e : i ≡ suc b = omega arith in rw e (omega arith))
    (λ l. simp length-append (omega (arith, rows_grow t block i b l)))

pub still_many : (d : ℕ) (buffer : List ℕ) (given : ℕ) {r r' : List Row} {e : Unsound} {after : List ℕ}
    → length r ≤ length r' → Takes d buffer given r (Err e) after → Takes d buffer given r' (Err e) after
still_many d buffer given h (many k) = many (omega arith)

module _ (d : ℕ) (buffer : List ℕ) (given t : ℕ) (block : List ℕ) (k : ℕ) {mid : List ℕ} {now : ℕ}
    (so_far : Takes d buffer given (rows_of k t block) (Ok now) mid) {after : List ℕ} {x : Result ℕ Unsound} (next : Takes d mid now (row_of t block k) x after) where
  pub slot_more : {y : Result ℕ Unsound} → x ≡ y → Takes d buffer given (rows_of (k + 1) t block) y after
  unfolding rows_of
  slot_more e = rw (add-one, ← e) (taken_more d buffer given so_far next)

  pub slot_many : {u : Unsound} → x ≡ Err u → (b : ℕ) → k < b → Takes d buffer given (rows_of b t block) (Err u) after
  slot_many e b l = still_many d buffer given (rows_grow t block (k + 1) b (omega arith)) (slot_more e)
