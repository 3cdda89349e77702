-- THE VERDICT ON A CALL: the first refusal of its table (calls.specs.Refusals), or what it may go on with.
use Rattle.std.specs.Prelude.{◌≡◌, Bool, cond, List, ℕ, Result, Ok, Err}
use Rattle.layout.specs.declared.refusal.Refusal.{Refusal}
use Rattle.layout.specs.RefusalNumbers.{number}
use Rattle.calls.specs.Refusals.{Test, refusal, time_tests}
use Rattle.queries.specs.declared.opened.Opened.{Opened}

-- a is what the call goes on with where no test applies: the head as it was found or, for a start, the settings
pub data Verdict {A : Type 0} (l : List Test) (a : A) : Result A Refusal → Type 0 where
  go : {b : A} → refusal l ≡ 0 → b ≡ a → Verdict l a (Ok b)
  away : {e : Refusal} → refusal l ≡ number e → Verdict l a (Err e)

-- What every change and clock move begins with: the store opened, and its own tests decide; or a refusal, whatever these are.
pub data OpensAt (ws : List ℕ) (second : ℕ) : Result Opened Refusal → Type 0 where
  timely : {o : Opened} → o.store.now ≡ ws → ((l : List Test) → refusal (time_tests ws second l) ≡ refusal l) → OpensAt ws second (Ok o)
  untimely : {e : Refusal} → ((l : List Test) → refusal (time_tests ws second l) ≡ number e) → OpensAt ws second (Err e)

-- a new reading places a record more than a clear (`clear_tests`)
abbrev pub more : Bool → ℕ
more renews = cond renews 1 0
