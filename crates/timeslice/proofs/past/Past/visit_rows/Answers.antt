-- `visit_rows` meets its contract: what is listed is a part of the list, and its rows are the visit's.
use Rattle.queries.specs.UnsoundLaws.{unsound_is}
use Rattle.timeslice.specs.ListedLaws.{visit_stops, visit_part}
use Rattle.timeslice.proofs.past.Past.visit_rows.Goals as goal

pub returns-in_err-blocks : goal.returns-in_err-blocks
returns-in_err-blocks c = rw (unsound_is c.from_residual.ensures.0) (visit_stops c.requires c.visit.ensures c.in_err-blocks.was)

pub slice_bounds-take_listed-end : goal.slice_bounds-take_listed-end
slice_bounds-take_listed-end c = (visit_part c.requires c.visit.ensures c.in_ok-blocks.was c.visit.auto.list).end

pub take_listed-requires-clause-all : goal.take_listed-requires-clause-all
take_listed-requires-clause-all c = (visit_part c.requires c.visit.ensures c.in_ok-blocks.was c.visit.auto.list).numbered

pub returns-in_err-given : goal.returns-in_err-given
returns-in_err-given c =
    rw (unsound_is c.from_residual-in_err-given.ensures.0)
    ((visit_part c.requires c.visit.ensures c.in_ok-blocks.was c.visit.auto.list).many c.take_listed.ensures c.in_err-given.was)

pub returns : goal.returns
returns c = (visit_part c.requires c.visit.ensures c.in_ok-blocks.was c.visit.auto.list).whole c.take_listed.ensures c.in_ok-given.was
