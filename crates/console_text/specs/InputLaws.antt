-- What a line's four fields say, from what the code answers of them.
use Rattle.std.specs.Prelude.{◌≡◌, refl, List, [], ◌∷◌, ℕ, Option, None, option_and_then}
use Rattle.console_text.specs.Decimal.{word_of}
use Rattle.console_text.specs.Fields.{fields_of, four, four_of}
use Rattle.console_text.specs.Input.{numbers_of, numbers_in}

four_by : {A : Type 0} (says : List ℕ → List ℕ → List ℕ → List ℕ → Option A) (parts : List (List ℕ))
    → four None says parts ≡ option_and_then (λ f. says f.0 f.1 f.2 f.3) (four None four_of parts)
four_by says [] = refl
four_by says (a ∷ []) = refl
four_by says (a ∷ b ∷ []) = refl
four_by says (a ∷ b ∷ c ∷ []) = refl
four_by says (a ∷ b ∷ c ∷ d ∷ []) = refl
four_by says (a ∷ b ∷ c ∷ d ∷ e ∷ more) = refl

pub numbers_by : (third fourth : List ℕ → Option ℕ) (line : List ℕ)
    → numbers_in third fourth line
    ≡ option_and_then (λ f. numbers_of (word_of f.0) (word_of f.1) (third f.2) (fourth f.3)) (four None four_of (fields_of line))
unfolding numbers_in
numbers_by third fourth line = four_by (λ a b c d. numbers_of (word_of a) (word_of b) (third c) (fourth d)) (fields_of line)
