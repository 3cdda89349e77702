-- `records::end_record`: the slot is one of the block's.
use Rattle.std.proofs.Common.{rules}
use Rattle.placing.proofs.AbleLaws.{end_spot}
use Rattle.placing.proofs.records.end_record.Goals as goal

pub write-requires-clause-valid : goal.write-requires-clause-valid
write-requires-clause-valid c = let p = end_spot _ _ _ c.requires in search rules

pub read-bits-requires-clause-valid : goal.read-bits-requires-clause-valid
read-bits-requires-clause-valid c = let p = end_spot _ _ _ c.requires in search rules

pub write-requires-2-clause-valid : goal.write-requires-2-clause-valid
write-requires-2-clause-valid c = let p = end_spot _ _ _ c.requires in search rules
