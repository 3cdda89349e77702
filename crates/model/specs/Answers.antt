-- COUNTS OF ANSWERS: which they are, and one more of them. A count stays at the greatest word.
use Rattle.std.specs.Prelude.{ℕ, ◌+◌, ◌-◌, ◌^◌, min, List, slice_index_or}
use Rattle.std.specs.declared.num.Saturating.{Saturating}
use Rattle.model.specs.declared.answers.Answers.{Answers}
use Rattle.model.specs.declared.answers.Refused.{Refused}

abbrev pub one_more : Saturating ℕ → Saturating ℕ
one_more c = record { 0 = min (c.0 + 1) (2 ^ 32 - 1) }

-- by the answer's number
abbrev pub counts_of : Answers → List (Saturating ℕ)
counts_of a = a.0

-- how often the answer of this number came
abbrev pub times : Answers → ℕ → Saturating ℕ
times a n = slice_index_or (counts_of a) n (record { 0 = 0 })

-- those that are printed
abbrev pub counts_in : Refused → List (Saturating ℕ)
counts_in r = r.0.now
