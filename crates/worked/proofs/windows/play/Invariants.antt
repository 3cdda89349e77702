-- The words are those that were lent.
use Rattle.console_run.specs.Words.{SameLent}
use Rattle.worked.proofs.windows.play.Given as goal

abbrev pub invariant-loop-byte : goal.invariant-loop-byte
invariant-loop-byte l = SameLent l.initial.lent l.lent
