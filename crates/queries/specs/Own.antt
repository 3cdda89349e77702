-- A QUERY'S OWN TESTS, behind those of the store: `own unsound`, of which the last, refusal 12, waits for what the blocks hold.
use Rattle.std.specs.Prelude.{◌≡◌, Bool, false, cond, ◌||◌, List, eqb, Result, Ok, Err}
use Rattle.layout.specs.declared.refusal.Refusal.{Refusal}
use Rattle.layout.specs.RefusalNumbers.{UNSOUND, number}
use Rattle.calls.specs.Refusals.{Test, refusal}

-- none of them but 12 applies, so that there is room for the answer
pub record OwnNone (own : Bool → List Test) (Room : Type 0) : Type 0 where
  pub room : Room
  pub left : (unsound : Bool) → refusal (own unsound) ≡ cond unsound UNSOUND 0

-- what they come to before a block is read: the first before 12 that applies, whatever the blocks hold; or none
pub data OwnRefusal (own : Bool → List Test) (Room : Type 0) : Result Unit Refusal → Type 0 where
  turned : {e : Refusal} → ((unsound : Bool) → refusal (own unsound) ≡ number e) → (eqb (number e) 0 || eqb (number e) UNSOUND) ≡ false
      → OwnRefusal own Room (Err e)
  free : OwnNone own Room → OwnRefusal own Room (Ok tt)
