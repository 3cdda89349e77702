-- The bytes so far are fed.
use Rattle.console_io.specs.Session.{running}
use Rattle.console_io.specs.SessionLaws.{FedTo}
use Rattle.console_io.proofs.Session.feed_all.Given as goal

abbrev pub invariant-loop-byte : goal.invariant-loop-byte
invariant-loop-byte l = FedTo (running l.initial.self) l.bytes l.byte-index (running l.self)
