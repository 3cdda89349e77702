-- `path` meets its contract: each way out of a turn of its loop is a law of paths, and so is the turn.
use Rattle.queries.specs.UnsoundLaws.{unsound_is}
use Rattle.timeslice.specs.PathLaws.{path_ends, path_stops, visit_room, path_visit_stops, path_turn}
use Rattle.timeslice.proofs.past.Past.path.Goals as goal

pub returns-in_err-step : goal.returns-in_err-step
returns-in_err-step c =
    rw (unsound_is c.from_residual.ensures.0) (path_stops c.loop-at.invariant c.loop-at-test.true c.climb.ensures c.in_err-step.was)

pub visit_rows-requires : goal.visit_rows-requires
visit_rows-requires c =
    visit_room c.loop-at.invariant c.loop-at-test.true c.climb.ensures c.in_ok-step.was c.climb.auto.rows c.climb.auto.list

pub returns-in_err-counts : goal.returns-in_err-counts
returns-in_err-counts c =
    rw (unsound_is c.from_residual-in_err-counts.ensures.0)
    (path_visit_stops c.loop-at.invariant c.loop-at-test.true c.climb.ensures c.in_ok-step.was
    c.climb.auto.rows c.climb.auto.list c.visit_rows.ensures c.in_err-counts.was)

pub loop-at-preserved : goal.loop-at-preserved
loop-at-preserved c =
    path_turn c.loop-at.invariant c.loop-at-test.true c.climb.ensures c.in_ok-step.was
    c.climb.auto.rows c.climb.auto.list c.visit_rows.ensures c.in_ok-counts.was c.visit_rows.auto.rows c.visit_rows.auto.list

pub returns : goal.returns
returns c = path_ends c.loop-at.invariant c.loop-at-test.false
