-- The loop's invariant: the rows of the tags so far are put.
use Rattle.window.specs.Noted.{Rowed}
use Rattle.window.proofs.span.Span.put_rows.Given as goal

abbrev pub invariant-loop-place : goal.invariant-loop-place
invariant-loop-place l = Rowed l.self l.best l.place-index l.initial.rows l.given l.rows
