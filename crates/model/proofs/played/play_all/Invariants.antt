-- As many as the number of the next were played.
use Rattle.std.proofs.Common.{◌≡◌}
use Rattle.model.proofs.played.play_all.Given as goal

abbrev pub invariant-loop-number : goal.invariant-loop-number
invariant-loop-number g l = l.played ≡ l.number
