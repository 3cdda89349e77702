-- The loop's invariant: there is room, and what tells the path from here tells the whole. The measure is the block's number.
use Rattle.timeslice.specs.PathLaws.{OnPath}
use Rattle.timeslice.proofs.past.Past.path.Given as goal

abbrev pub invariant-loop-at : goal.invariant-loop-at
invariant-loop-at l =
    OnPath l.self l.number l.initial.rows l.initial.list l.initial.counts l.at l.rows l.list l.counts

abbrev pub decreases-loop-at : goal.decreases-loop-at
decreases-loop-at l = l.at
