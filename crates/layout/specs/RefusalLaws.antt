-- Every refusal has a number, and 0 is none; and `?` hands on the refusal that it found.
use Rattle.std.specs.Prelude.{◌≤◌, ◌≡◌, Result, Ok, Err, IsErrAnd}
use Rattle.std.proofs.Math.Path.{ap}
use native.Mathlib.Omega.{arith}
use Rattle.layout.specs.declared.refusal.Refusal.{Refusal}
use Rattle.layout.specs.declared.refusal.Refusal.TheVariants as refusal
use Rattle.layout.specs.RefusalNumbers.{number}

pub number_some : (e : Refusal) → 1 ≤ number e
number_some refusal.Settings = omega arith
number_some refusal.ShortHead = omega arith
number_some refusal.Head = omega arith
number_some refusal.ShortStore = omega arith
number_some refusal.TimeOpen = omega arith
number_some refusal.Early = omega arith
number_some refusal.Late = omega arith
number_some refusal.Tag = omega arith
number_some refusal.Standing = omega arith
number_some refusal.NotStanding = omega arith
number_some refusal.ShortBuffer = omega arith
number_some refusal.Unsound = omega arith
number_some refusal.OutOfBlocks = omega arith
number_some refusal.Reversed = omega arith

-- What `?` hands on is the refusal that it found.
pub err_kept : {A : Type 0} {r : Result A Refusal} {e : Refusal} → IsErrAnd r (λ x. x ≡ e) → r ≡ Err e
err_kept {r = Err x} h = ap Err h
err_kept {r = Ok a} h = absurd h
