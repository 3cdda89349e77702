-- WHAT `open` ANSWERS: the store opened, and the call's own tests decide; or refusal 2, 3 or 4, whatever these are, and not 12.
use Rattle.std.specs.Prelude.{◌≡◌, false, ◌||◌, List, ℕ, eqb, Result, Ok, Err}
use Rattle.layout.specs.declared.refusal.Refusal.{Refusal}
use Rattle.layout.specs.RefusalNumbers.{UNSOUND, number}
use Rattle.calls.specs.Refusals.{Test, refusal, store_tests}
use Rattle.queries.specs.declared.opened.Opened.{Opened}

pub data Opens (ws : List ℕ) : Result Opened Refusal → Type 0 where
  opened : {o : Opened} → o.store.now ≡ ws → ((l : List Test) → refusal (store_tests ws l) ≡ refusal l) → Opens ws (Ok o)
  shut : {e : Refusal} → ((l : List Test) → refusal (store_tests ws l) ≡ number e) → (eqb (number e) 0 || eqb (number e) UNSOUND) ≡ false → Opens ws (Err e)
