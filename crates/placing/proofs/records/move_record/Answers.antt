-- `records::move_record`: its parts may run one after the other.
use Rattle.layout.specs.Able.{able_first, able_next, able_get, able_payload}
use Rattle.calls.specs.Placing.{move_record}
use Rattle.placing.proofs.AbleLaws.{any_payload}
use Rattle.placing.proofs.records.move_record.Goals as goal

pub read-tag-requires-clause-valid : goal.read-tag-requires-clause-valid
unfolding move_record
read-tag-requires-clause-valid c = able_get _ (able_first c.requires)

pub read-payload-requires-clause-spot : goal.read-payload-requires-clause-spot
unfolding move_record
read-payload-requires-clause-spot c = able_payload (able_next c.requires c.read-tag.ensures)

pub put_record-requires : goal.put_record-requires
unfolding move_record
put_record-requires c =
    any_payload _ _ _ _ (able_next (able_next (able_next c.requires c.read-tag.ensures) c.read-payload.ensures) c.end_record.ensures) _
