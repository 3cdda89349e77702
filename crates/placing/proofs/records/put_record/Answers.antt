-- `records::put_record`: the acceptor's next slot is one of the store's, and any slot up to it may be written.
use Rattle.std.proofs.Common.{arith, rules}
use Rattle.placing.proofs.AbleLaws.{put_spot, put_tag}
use Rattle.placing.proofs.records.put_record.Goals as goal

pub place_of-place-requires : goal.place_of-place-requires
place_of-place-requires c = put_spot _ _ _ _ c.requires

pub write-requires-clause-valid : goal.write-requires-clause-valid
write-requires-clause-valid c = let p = put_spot _ _ _ _ c.requires in search rules

pub write-requires-2-clause-spot : goal.write-requires-2-clause-spot
write-requires-2-clause-spot c = put_spot _ _ _ _ c.requires

pub write-requires-3-clause-valid : goal.write-requires-3-clause-valid
write-requires-3-clause-valid c = let p = put_spot _ _ _ _ c.requires in search rules

pub write-requires-4-clause-valid : goal.write-requires-4-clause-valid
write-requires-4-clause-valid c = let p = put_spot _ _ _ _ c.requires in search rules

pub read-bits-requires-clause-valid : goal.read-bits-requires-clause-valid
read-bits-requires-clause-valid c = let p = put_spot _ _ _ _ c.requires in search rules

pub write-requires-5-clause-valid : goal.write-requires-5-clause-valid
write-requires-5-clause-valid c = let p = put_spot _ _ _ _ c.requires in search rules

pub write-requires-6-clause-valid : goal.write-requires-6-clause-valid
write-requires-6-clause-valid c = put_tag _ _ _ _ c.requires

pub filled-requires : goal.filled-requires
filled-requires c = let p = put_spot _ _ _ _ c.requires in omega arith
