-- MARKS: words that tell their places, from 3,000,000,000 at place 0 on. (No place here is so far on that its mark would be no word.)
use Rattle.std.specs.Prelude.{◌≡◌, ℕ, ◌+◌, ◌-◌, ◌^◌, ◌<◌, min, List, length, slice_index}

abbrev pub mark_of : ℕ → ℕ
mark_of place = min (3000000000 + place) (2 ^ 32 - 1)

-- each word is the mark of its place
abbrev pub AreMarks : List ℕ → Type 0
AreMarks words = (place : ℕ) → place < length words → slice_index words place ≡ mark_of place
