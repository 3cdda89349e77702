-- `take_rows` meets its contract: one slot more is a law, and so is one that is too many.
use Rattle.queries.specs.UnsoundLaws.{unsound_is}
use Rattle.timeslice.specs.TakenLaws.{taken_none, slot_more, slot_many}
use Rattle.timeslice.proofs.past.Past.take_rows.Goals as goal

pub loop-k-init : goal.loop-k-init
loop-k-init c = taken_none _ _ _ _ _ c.requires.row_buffer.fits

pub returns-in_err-so_far : goal.returns-in_err-so_far
returns-in_err-so_far c =
    rw (unsound_is c.from_residual.ensures.0)
    (slot_many _ _ _ _ _ _ c.loop-k.invariant c.take_row.ensures c.in_err-so_far.was _ c.loop-k-test.true)

pub loop-k-preserved : goal.loop-k-preserved
loop-k-preserved c = slot_more _ _ _ _ _ _ c.loop-k.invariant c.take_row.ensures c.in_ok-so_far.was
