-- A LINE'S FIELDS: the parts between separators, and what a line of four fields says.
use Rattle.std.specs.Prelude.{List, [], ◌∷◌, ℕ, eqb, Option, Some, option_map}
use Rattle.std.specs.List.{slice_split}
use Rattle.std.specs.Borrow.{Bor}
use Prim.Native.Char.{code}

-- The parts between separators: one more than there are separators.
abbrev pub split : ℕ → List ℕ → List (List ℕ)
split separator bytes = slice_split (λ x. eqb x separator) bytes

-- The fields of a line, between its commas.
abbrev pub fields_of : List ℕ → List (List ℕ)
fields_of line = split (code ",") line

-- What a line with exactly three commas says by its four fields; any other says `bad`.
abbrev pub four : {A : Type 0} → A → (List ℕ → List ℕ → List ℕ → List ℕ → A) → List (List ℕ) → A
four bad says [] = bad
four bad says (a ∷ []) = bad
four bad says (a ∷ b ∷ []) = bad
four bad says (a ∷ b ∷ c ∷ []) = bad
four bad says (a ∷ b ∷ c ∷ d ∷ []) = says a b c d
four bad says (a ∷ b ∷ c ∷ d ∷ e ∷ more) = bad

-- What the code answers of a line's fields, with what its references point to.
abbrev pub FourFields : Type 0 → Type 0
FourFields A = A × A × A × A

abbrev pub four_of : List ℕ → List ℕ → List ℕ → List ℕ → Option (FourFields (List ℕ))
four_of a b c d = Some (a, b, c, d)

abbrev pub fields_view : Option (FourFields (Bor (List ℕ))) → Option (FourFields (List ℕ))
fields_view r = option_map (λ f. (f.0.now, f.1.now, f.2.now, f.3.now)) r
