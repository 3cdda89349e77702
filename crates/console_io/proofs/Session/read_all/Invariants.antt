-- The reads so far are fed.
use Rattle.console_io.specs.Session.{running, ReadAll}
use Rattle.console_io.proofs.Session.read_all.Given as goal

abbrev pub invariant-loop : goal.invariant-loop
invariant-loop g l = ReadAll (running l.initial.self) (running l.self)
