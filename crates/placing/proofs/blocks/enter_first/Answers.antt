-- `blocks::enter_first`: the write, where there is one.
use Rattle.std.proofs.Common.{eq-eqb}
use Rattle.layout.specs.Able.{able_taken, able_set}
use Rattle.placing.proofs.blocks.enter_first.Goals as goal

pub write-requires-clause-valid : goal.write-requires-clause-valid
write-requires-clause-valid c = able_set _ (able_taken (eq-eqb _ _ c.if-i-every-ne0.false) c.requires.able)
