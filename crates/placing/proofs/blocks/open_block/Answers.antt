-- `blocks::open_block`: block N + 1 is one of the store's, and so are all before it.
use Rattle.std.proofs.Common.{arith, rules}
use Rattle.placing.proofs.AbleLaws.{next_block}
use Rattle.placing.proofs.blocks.open_block.Goals as goal

pub overflow_add-next : goal.overflow_add-next
overflow_add-next c = let n = next_block _ _ c.requires in omega arith

pub wipe-requires-clause-numbered : goal.wipe-requires-clause-numbered
wipe-requires-clause-numbered c = next_block _ _ c.requires

pub write-requires-clause-valid : goal.write-requires-clause-valid
write-requires-clause-valid c = let n = next_block _ _ c.requires in search rules

pub write-requires-2-clause-valid : goal.write-requires-2-clause-valid
write-requires-2-clause-valid c = let n = next_block _ _ c.requires in search rules

pub write-requires-3-clause-valid : goal.write-requires-3-clause-valid
write-requires-3-clause-valid c = let n = next_block _ _ c.requires in search rules

pub write-requires-4-clause-valid : goal.write-requires-4-clause-valid
write-requires-4-clause-valid c = let n = next_block _ _ c.requires in search rules

pub grown-requires-2 : goal.grown-requires-2
grown-requires-2 c = let n = next_block _ _ c.requires in omega arith
