-- The lines so far are handed on.
use Rattle.console_run.specs.Console.{told, said_lines}
use Rattle.console_io.specs.SinkLaws.{SentTo}
use Rattle.console_io.proofs.print_said.Given as goal

abbrev pub invariant-loop-i : goal.invariant-loop-i
invariant-loop-i l = SentTo l.initial.next (said_lines (told l.said) l.number l.rows) l.i l.next
