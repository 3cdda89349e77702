-- `changes::set_program` meets its contract: one step, then the other.
use Rattle.layout.specs.Able.{able_next}
use Rattle.calls.specs.Placing.{set_program}
use Rattle.placing.proofs.changes.set_program.Goals as goal

pub finish-requires : goal.finish-requires
unfolding set_program
finish-requires c =
    let m = c.place-placed.ensures in
    rw m.settings (able_next c.requires m.ran)
