-- The measure is the gap of the two numbers, and a visit is one more than what goes on inside.
use Rattle.std.proofs.Common.{◌+◌, ◌-◌, ◌*◌}
use Rattle.timeslice.proofs.past.Past.+visit.Given as goal

abbrev pub decreases-visit : goal.decreases-visit
decreases-visit l = 2 * (l.upper - l.lower) + 1

abbrev pub decreases-visit_inside : goal.decreases-visit_inside
decreases-visit_inside l = 2 * (l.upper - l.lower)
