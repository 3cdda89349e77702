-- `moves::move_all` meets its contract: a turn for each standing slot (LoopLaws).
use Rattle.placing.proofs.LoopLaws.{going_able, going_on, going_end}
use Rattle.placing.proofs.moves.move_all.Goals as goal

pub move_slot-head-requires : goal.move_slot-head-requires
move_slot-head-requires g c = going_able c.loop-k.invariant c.in-Some.ensures.steps

pub loop-k-preserved : goal.loop-k-preserved
loop-k-preserved g c = going_on c.loop-k.invariant c.in-Some.ensures.steps c.move_slot-head.ensures

pub returns : goal.returns
returns g c = going_end c.loop-k.invariant c.in-None.ensures.steps.0
