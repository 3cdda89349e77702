-- WHAT A LOOK-BACK ANSWERS IN CODE, and the words that it leaves: those of the definition (calls, `look_back`), on any words and any two buffers.
use Rattle.std.specs.Prelude.{◌≡◌, List, [], ◌∷◌, ℕ, ◌*◌, ◌≤◌, get_or, Result, Ok, Err}
use Rattle.layout.specs.declared.refusal.Refusal.{Refusal}
use Rattle.layout.specs.RefusalNumbers.{number}
use Rattle.layout.specs.Sizes.{OPEN, row_len}
use Rattle.calls.specs.Calls.{Row, View, Answer, Shown, Refused}
use Rattle.calls.specs.Walk.{Pass, unsoundly, looked}
use Rattle.calls.specs.Refusals.{look_back_own}
use Rattle.calls.specs.LookBack.{look_back, look_at, seen, view_of, row_words, written}
use Rattle.queries.specs.Own.{OwnRefusal}
use Rattle.timeslice.specs.declared.Slice.{Slice}
use Rattle.queries.specs.declared.unsound.Unsound.{Unsound}
use Rattle.timeslice.specs.declared.past.Past.{Past}
use Rattle.timeslice.specs.Searching.{page_told}

-- a view's three numbers, and its page on each of the three levels, of which the view has OPEN for none
abbrev pub slice_of : View → Slice
slice_of v = record {
  counts = record { rows = v.counts.rows; pages = v.counts.pages; blocks = v.counts.blocks };
  pages = page_told (get_or v.pages 0 OPEN) ∷ page_told (get_or v.pages 1 OPEN) ∷ page_told (get_or v.pages 2 OPEN) ∷ [];
}

-- A view is answered, a refusal has its number. No look-back answers with a head.
pub data Says : Answer → Result Slice Refusal → Type 0 where
  view : {v : View} {s : Slice} → s ≡ slice_of v → Says (Shown v) (Ok s)
  turned : {n : ℕ} {e : Refusal} → number e ≡ n → Says (Refused n) (Err e)

-- The contract: the answer, and both buffers as the call leaves them. (The store is lent to be read only.)
pub record LookedBack (ws : List ℕ) (t : ℕ) (rows list : List ℕ) (r : Result Slice Refusal) (rows' list' : List ℕ) : Type 0 where
  pub answer : Says (look_back ws t rows list).answer r
  pub row_words_lem : rows' ≡ (look_back ws t rows list).rows
  pub list_words : list' ≡ (look_back ws t rows list).list

-- ---- the parts
-- what the walk over the words says: its rows and list at the start of the buffers, or that it is unsound, the buffers being anything
pub data WalkSays (p : Past) (rows list : List ℕ) : Result Slice Unsound → List ℕ → List ℕ → Type 0 where
  whole : {r : List Row} {l : List ℕ} {ps : List Pass} {s : Slice} {rows' list' : List ℕ} → look_at p.opened.store.now p.second ≡ looked r l ps
      → s ≡ slice_of (view_of r l ps) → rows' ≡ written (row_words r) rows → list' ≡ written l list → WalkSays p rows list (Ok s) rows' list'
  broken : {e : Unsound} {rows' list' : List ℕ} → look_at p.opened.store.now p.second ≡ unsoundly → WalkSays p rows list (Err e) rows' list'

-- a look-back to which no refusal but 12 applies
pub record Answers (p : Past) (rows list : List ℕ) (r : Result Slice Refusal) (rows' list' : List ℕ) : Type 0 where
  pub answer : Says (seen rows list (look_at p.opened.store.now p.second)).answer r
  pub row_words_lem : rows' ≡ (seen rows list (look_at p.opened.store.now p.second)).rows
  pub list_words : list' ≡ (seen rows list (look_at p.opened.store.now p.second)).list

-- what its own tests come to before the walk, for buffers of these lengths: the first of 5, 7 and 11 that applies; or both are long enough
pub record SliceRefusal (p : Past) (rows list : ℕ) (r : Result Unit Refusal) : Type 0 where
  pub own : OwnRefusal (λ unsound. look_back_own p.opened.head p.second rows list unsound)
      ((row_len * p.opened.head.settings.tags ≤ rows) × (p.opened.head.settings.blocks ≤ list)) r
