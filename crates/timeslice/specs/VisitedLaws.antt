-- The rows of listed blocks, taken one after another, are those of the list.
use Rattle.std.specs.Prelude.{◌≡◌, refl, ℕ, zero, suc, ◌+◌, ◌≤◌, ◌<◌, length, get_or, take, drop, Result, Ok, Err}
use Rattle.std.proofs.Common.{sym, ap, ◌∙◌, add-one, arith, length-append, take-append-drop, take_all, le-leb}
use mathlib.Core.List.{List, [], ◌∷◌, ◌++◌, append-nil}
use Rattle.std.proofs.Math.Seq.{take-suc}
use Rattle.std.proofs.lemmas.Bool.{lt-leb}
use Rattle.base.specs.Sums.{All, nil, cons}
use Rattle.layout.specs.Fields.{closed_word}
use Rattle.layout.specs.Parts.{block_word}
use Rattle.calls.specs.Walk.{Reader, rows_of}
use Rattle.queries.specs.BlockLaws.{word_is}
use Rattle.queries.specs.declared.unsound.Unsound.{Unsound}
use Rattle.timeslice.specs.Taken.{Takes, all}
use Rattle.timeslice.specs.TakenLaws.{taken_more, still_many}
use Rattle.timeslice.specs.Listed.{rows_at, rows_in}
use Rattle.timeslice.specs.VisitLaws.{rows_append}

-- every block of a list is numbered, so that one is
pub all_at : {P : ℕ → Type 0} {l : List ℕ} → All P l → (i : ℕ) → i < length l → P (get_or l i 0)
all_at nil i h = absurd (omega arith)
all_at (cons p a) zero h = p
all_at (cons p a) (suc i) h = all_at a i (omega arith)

-- ---- one block
module _ (b t : ℕ) (R : Reader) (n d : ℕ) (buffer : List ℕ) (given : ℕ) {block : List ℕ} (is : block ≡ R.block n) {closed : ℕ}
    (c : closed ≡ block_word block closed_word) where
  -- It closed by t,
  pub block_ended : closed ≤ t → given ≤ d → Takes d buffer given (rows_at b t R n) (Ok given) buffer
  unfolding rows_at
  block_ended g f = rw (le-leb _ t (rw (word_is closed_word is c) at g)) (all {now = given} (omega arith) f refl)

  -- or its rows are taken.
  pub block_taken : t < closed → {x : Result ℕ Unsound} {after : List ℕ} → Takes d buffer given (rows_of b t block) x after → Takes d buffer given (rows_at b t R n) x after
  unfolding rows_at
  block_taken g taken = rw (lt-leb _ t (rw (word_is closed_word is c) at g)) (rw is at taken)

-- ---- the blocks so far, and one more
pub listed_none : (b t : ℕ) (R : Reader) (d : ℕ) (buffer : List ℕ) (given : ℕ) → given ≤ d → Takes d buffer given (rows_in b t R []) (Ok given) buffer
unfolding rows_in
listed_none b t R d buffer given h = all {now = given} (omega arith) h refl

module _ (b t : ℕ) (R : Reader) (d : ℕ) (buffer : List ℕ) (given : ℕ) (l : List ℕ) where
  one_more : (i : ℕ) → i < length l → rows_in b t R (take (i + 1) l) ≡ rows_in b t R (take i l) ++ rows_at b t R (get_or l i 0)
  unfolding rows_in
  one_more i h =
      let last : rows_in b t R (get_or l i 0 ∷ []) ≡ rows_at b t R (get_or l i 0) = append-nil (rows_at b t R (get_or l i 0)) in
      rw (add-one i, take-suc l i 0 h, rows_append b t R (take i l) (get_or l i 0 ∷ []), last)

  fewer : (k : ℕ) → length (rows_in b t R (take k l)) ≤ length (rows_in b t R l)
  fewer k =
      let e : rows_in b t R l ≡ rows_in b t R (take k l) ++ rows_in b t R (drop k l)
      = ap (rows_in b t R) (sym (take-append-drop k l)) ∙ rows_append b t R (take k l) (drop k l) in
      rw e (simp length-append (omega arith))

  module _ (i : ℕ) {mid : List ℕ} {now : ℕ} (so_far : Takes d buffer given (rows_in b t R (take i l)) (Ok now) mid) (h : i < length l)
      {after : List ℕ} {x : Result ℕ Unsound} (next : Takes d mid now (rows_at b t R (get_or l i 0)) x after) where
    pub listed_more : {y : Result ℕ Unsound} → x ≡ y → Takes d buffer given (rows_in b t R (take (i + 1) l)) y after
    listed_more e = rw (one_more i h, ← e) (taken_more d buffer given so_far next)

    pub listed_many : {u : Unsound} → x ≡ Err u → Takes d buffer given (rows_in b t R l) (Err u) after
    listed_many e = still_many d buffer given (fewer (i + 1)) (listed_more e)

  -- after the last block
  pub listed_all : (i : ℕ) → length l ≤ i → {x : Result ℕ Unsound} {after : List ℕ} → Takes d buffer given (rows_in b t R (take i l)) x after
      → Takes d buffer given (rows_in b t R l) x after
  listed_all i h a = rw (take_all i l h) at a
