-- The loop's invariant: the rows of the first k slots are taken.
use Rattle.std.proofs.Common.{Ok}
use Rattle.calls.specs.Walk.{rows_of}
use Rattle.timeslice.specs.Taken.{Takes}
use Rattle.timeslice.proofs.past.Past.take_rows.Given as goal

abbrev pub invariant-loop-k : goal.invariant-loop-k
invariant-loop-k l =
    Takes l.self.opened.head.settings.tags l.initial.rows l.given (rows_of l.k l.self.second l.block) (Ok l.so_far) l.rows
