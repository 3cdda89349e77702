-- `take_block` meets its contract: the block that it is handed is the reader's.
use Rattle.timeslice.specs.VisitedLaws.{block_ended, block_taken}
use Rattle.timeslice.proofs.past.Past.take_block.Goals as goal

pub returns-then-block_word-self : goal.returns-then-block_word-self
returns-then-block_word-self c =
    block_ended _ _ _ _ _ _ _ c.block-block.ensures.read c.block_word.ensures
    c.if-block_word-self.true c.requires.row_buffer.fits

pub returns : goal.returns
returns c =
    block_taken _ _ _ _ _ _ _ c.block-block.ensures.read c.block_word.ensures
    c.if-block_word-self.false c.take_rows.ensures
