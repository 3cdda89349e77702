-- `blocks::enter_time`: one level after the other.
use Rattle.layout.specs.Able.{able_first, able_next, able_set}
use Rattle.calls.specs.Placing.{enter_time}
use Rattle.placing.proofs.blocks.enter_time.Goals as goal

pub write-requires-clause-valid : goal.write-requires-clause-valid
unfolding enter_time
write-requires-clause-valid c = able_set _ (able_first c.requires)

pub enter_first-requires-2-clause-able : goal.enter_first-requires-2-clause-able
unfolding enter_time
enter_first-requires-2-clause-able c = able_next (able_next c.requires c.write.ensures) c.enter_first.ensures
