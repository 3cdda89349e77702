-- `moves::replace` meets its contract: one step, then the other.
use Rattle.layout.specs.Able.{able_next}
use Rattle.calls.specs.Placing.{replace}
use Rattle.placing.proofs.moves.AnewMoves.move_slot.Goals as goal

pub move_record-requires : goal.move_record-requires
unfolding replace
move_record-requires c =
    let m = c.make_room-with_room.ensures in
    rw m.settings (able_next c.requires m.ran)
