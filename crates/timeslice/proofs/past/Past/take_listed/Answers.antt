-- `take_listed` meets its contract: one block more is a law, and so is one with too many rows.
use Rattle.queries.specs.UnsoundLaws.{unsound_is}
use Rattle.timeslice.specs.VisitedLaws.{all_at, listed_none, listed_more, listed_many}
use Rattle.timeslice.proofs.past.Past.take_listed.Goals as goal

pub loop-number-init : goal.loop-number-init
loop-number-init c = listed_none _ _ _ _ _ _ c.requires.row_buffer.fits

pub take_block-requires-clause-numbered : goal.take_block-requires-clause-numbered
take_block-requires-clause-numbered c = all_at c.requires.all _ c.loop-number-test.true

pub returns-in_err-so_far : goal.returns-in_err-so_far
returns-in_err-so_far c =
    rw (unsound_is c.from_residual.ensures.0)
    (listed_many _ _ _ _ _ _ _ _ c.loop-number.invariant c.loop-number-test.true c.take_block.ensures c.in_err-so_far.was)

pub loop-number-preserved : goal.loop-number-preserved
loop-number-preserved c =
    listed_more _ _ _ _ _ _ _ _ c.loop-number.invariant c.loop-number-test.true c.take_block.ensures c.in_ok-so_far.was
