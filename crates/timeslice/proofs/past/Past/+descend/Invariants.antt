-- The measure of `descend` is the level.
use Rattle.timeslice.proofs.past.Past.+descend.Given as goal

abbrev pub decreases-descend : goal.decreases-descend
decreases-descend l = l.l
