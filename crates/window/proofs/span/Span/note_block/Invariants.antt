-- The loop's invariant: the first k slots are noted.
use Rattle.window.specs.Noted.{NotedTo}
use Rattle.window.proofs.span.Span.note_block.Given as goal

abbrev pub invariant-loop-k : goal.invariant-loop-k
invariant-loop-k l = NotedTo l.self l.n l.k l.best
