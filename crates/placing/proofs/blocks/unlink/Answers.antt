-- `blocks::unlink`: the blocks that its two links name are the store's.
use Rattle.std.proofs.Common.{rules}
use Rattle.layout.specs.Able.{able_first, able_next, able_get}
use Rattle.calls.specs.Placing.{unlink}
use Rattle.placing.proofs.AbleLaws.{unlink_links}
use Rattle.placing.proofs.blocks.unlink.Goals as goal

pub read-up-requires-clause-valid : goal.read-up-requires-clause-valid
unfolding unlink
read-up-requires-clause-valid c = able_get _ (able_first c.requires)

pub read-right-requires-clause-valid : goal.read-right-requires-clause-valid
unfolding unlink
read-right-requires-clause-valid c = able_get _ (able_first (able_next c.requires c.read-up.ensures))

pub write-requires-clause-valid : goal.write-requires-clause-valid
write-requires-clause-valid c = let l = unlink_links _ _ _ c.requires c.read-up.ensures c.read-right.ensures in search rules

pub write-requires-2-clause-valid : goal.write-requires-2-clause-valid
write-requires-2-clause-valid c = let l = unlink_links _ _ _ c.requires c.read-up.ensures c.read-right.ensures in search rules

pub write-requires-then-up-eq0-clause-valid : goal.write-requires-then-up-eq0-clause-valid
write-requires-then-up-eq0-clause-valid c = let l = unlink_links _ _ _ c.requires c.read-up.ensures c.read-right.ensures in search rules

pub read-child-requires-clause-valid : goal.read-child-requires-clause-valid
read-child-requires-clause-valid c = let l = unlink_links _ _ _ c.requires c.read-up.ensures c.read-right.ensures in search rules

pub write-requires-3-clause-valid : goal.write-requires-3-clause-valid
write-requires-3-clause-valid c = let l = unlink_links _ _ _ c.requires c.read-up.ensures c.read-right.ensures in search rules

pub write-requires-4-clause-valid : goal.write-requires-4-clause-valid
write-requires-4-clause-valid c = let l = unlink_links _ _ _ c.requires c.read-up.ensures c.read-right.ensures in search rules

pub write-requires-5-clause-valid : goal.write-requires-5-clause-valid
write-requires-5-clause-valid c = let l = unlink_links _ _ _ c.requires c.read-up.ensures c.read-right.ensures in search rules
