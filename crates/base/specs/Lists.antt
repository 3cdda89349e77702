-- Lists joined one after another, and the members of a list that pass a test.
use Rattle.std.specs.Prelude.{Bool, cond, List, [], ◌∷◌, ◌++◌, ℕ, zero, suc}

-- f 0, then f 1, .. then f (n − 1)
unfoldable pub joined : {A : Type 0} → (ℕ → List A) → ℕ → List A
joined f zero = []
joined f (suc k) = joined f k ++ f k

-- those that pass, in their order
abbrev pub those : {A : Type 0} → (A → Bool) → List A → List A
those p [] = []
those p (x ∷ l) = cond (p x) (x ∷ those p l) (those p l)
