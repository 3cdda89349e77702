-- THE NUMBERS OF ANSWERS, as the papers have them: 0 for an accepted call, then the refusals.
use Rattle.std.specs.Prelude.{◌≡◌, ℕ, ◌<◌, ◌≤◌, Result, Ok, Err, IfOk, IfErr, IsOk}
use Rattle.model.specs.declared.refusal.Refusal.{Refusal}
use Rattle.model.specs.declared.refusal.Refusal.TheVariants as refusal
use Rattle.model.specs.declared.refusal.UnknownRefusal.{UnknownRefusal}

abbrev pub refusal_number : Refusal → ℕ
refusal_number refusal.Settings = 1
refusal_number refusal.ShortHead = 2
refusal_number refusal.Head = 3
refusal_number refusal.ShortStore = 4
refusal_number refusal.TimeOpen = 5
refusal_number refusal.Early = 6
refusal_number refusal.Late = 7
refusal_number refusal.Tag = 8
refusal_number refusal.Standing = 9
refusal_number refusal.NotStanding = 10
refusal_number refusal.ShortBuffer = 11
refusal_number refusal.Unsound = 12
refusal_number refusal.OutOfBlocks = 13
refusal_number refusal.Reversed = 14

-- of what a call answered
abbrev pub answer_number : {A : Type 0} → Result A Refusal → ℕ
answer_number (Ok a) = 0
answer_number (Err r) = refusal_number r

-- What a number from 1 to 14 names is the refusal with that number; any other number names none.
pub record Names (n : ℕ) (r : Result Refusal UnknownRefusal) : Type 0 where
  pub same : IfOk r (λ refusal. refusal_number refusal ≡ n)
  pub known : 0 < n → n ≤ 14 → IsOk r
  pub unknown : IfErr r (λ u. u.0 ≡ n)
