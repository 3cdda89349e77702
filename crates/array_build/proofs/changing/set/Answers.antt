-- `changing::set` is safe: a call that goes on has a store that is long enough.
use Rattle.decisions.specs.ReadyLaws.{go_set}
use Rattle.array_build.proofs.changing.set.Goals as goal

pub place_new-placed-requires : goal.place_new-placed-requires
place_new-placed-requires c = (go_set _ c.in_ok-found.ensures).time.ready.held
