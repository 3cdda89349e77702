-- `changes::clearing_program` meets its contract: the clear first, then as a clear or as a new reading.
use Rattle.layout.specs.Able.{able_first, able_next}
use Rattle.calls.specs.Placing.{clear_program, update_program}
use Rattle.placing.proofs.changes.clearing_program.Goals as goal

pub finish-requires : goal.finish-requires
unfolding clear_program
finish-requires c =
    let m = c.clear_tag-cleared.ensures in
    rw m.settings (able_next (rw c.in-None.is at c.requires.able) m.ran)

pub place-renewed-requires : goal.place-renewed-requires
unfolding update_program
place-renewed-requires c =
    let m = c.clear_tag-cleared.ensures in
    rw m.settings (able_first (able_next (rw c.in-Some.is at c.requires.able) m.ran))

pub finish-requires-in-Some : goal.finish-requires-in-Some
unfolding update_program
finish-requires-in-Some c =
    let m = c.clear_tag-cleared.ensures in
    let n = c.place-renewed.ensures in
    rw (n.settings, m.settings) (able_next (able_next (rw c.in-Some.is at c.requires.able) m.ran) (rw m.settings at n.ran))
