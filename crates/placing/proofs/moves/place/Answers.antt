-- `moves::place` meets its contract: one step, then the other.
use Rattle.layout.specs.Able.{able_next}
use Rattle.calls.specs.Placing.{place}
use Rattle.placing.proofs.AbleLaws.{any_payload}
use Rattle.placing.proofs.moves.place.Goals as goal

pub put_record-requires : goal.put_record-requires
unfolding place
put_record-requires c =
    let m = c.make_room-with_room.ensures in
    rw m.settings (any_payload _ _ _ _ (able_next c.requires m.ran) _)
