-- No answer has a number above 14.
use Rattle.std.proofs.Common.{◌≤◌, Result, Ok, Err, lit≤}
use Rattle.model.specs.declared.refusal.Refusal.{Refusal}
use Rattle.model.specs.declared.refusal.Refusal.TheVariants as refusal
use Rattle.model.specs.Numbers.{refusal_number, answer_number}

pub refusal_number_most : (r : Refusal) → refusal_number r ≤ 14
refusal_number_most refusal.Settings = lit≤ tt
refusal_number_most refusal.ShortHead = lit≤ tt
refusal_number_most refusal.Head = lit≤ tt
refusal_number_most refusal.ShortStore = lit≤ tt
refusal_number_most refusal.TimeOpen = lit≤ tt
refusal_number_most refusal.Early = lit≤ tt
refusal_number_most refusal.Late = lit≤ tt
refusal_number_most refusal.Tag = lit≤ tt
refusal_number_most refusal.Standing = lit≤ tt
refusal_number_most refusal.NotStanding = lit≤ tt
refusal_number_most refusal.ShortBuffer = lit≤ tt
refusal_number_most refusal.Unsound = lit≤ tt
refusal_number_most refusal.OutOfBlocks = lit≤ tt
refusal_number_most refusal.Reversed = lit≤ tt

pub answer_number_most : {A : Type 0} (a : Result A Refusal) → answer_number a ≤ 14
answer_number_most (Ok a) = lit≤ tt
answer_number_most (Err r) = refusal_number_most r
