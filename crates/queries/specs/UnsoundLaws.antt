-- A part of a query that fails, fails in the one way that there is.
use Rattle.std.specs.Prelude.{◌≡◌, refl, Result, Ok, Err, IsErr}
use Rattle.queries.specs.declared.unsound.Unsound.{Unsound}

pub unsound_is : {A : Type 0} {x : Result A Unsound} → IsErr x → x ≡ Err (record {})
unsound_is {x = Err e} h = refl
unsound_is {x = Ok a} h = cc
