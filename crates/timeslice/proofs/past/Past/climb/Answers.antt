-- `climb` meets its contract: an up that is not below is refused before the block is listed.
use Rattle.queries.specs.UnsoundLaws.{unsound_is}
use Rattle.timeslice.specs.PathLaws.{climb_above, climb_full, climb_on}
use Rattle.timeslice.proofs.past.Past.climb.Goals as goal

pub returns-then-number-up : goal.returns-then-number-up
returns-then-number-up c =
    climb_above _ _ c.block-block.ensures.read c.block_word-up.ensures c.if-number-up.true

pub returns-in_err-given : goal.returns-in_err-given
returns-in_err-given c =
    rw (unsound_is c.from_residual.ensures.0)
    (climb_full _ _ c.block-block.ensures.read c.block_word-up.ensures c.if-number-up.false
    c.take_rows.ensures c.in_err-given.was)

pub returns : goal.returns
returns c =
    climb_on _ _ c.block-block.ensures.read c.block_word-up.ensures c.if-number-up.false
    c.take_rows.ensures c.in_ok-given.was c.neighbour-next.ensures
