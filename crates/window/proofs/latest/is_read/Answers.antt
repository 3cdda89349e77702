-- `is_read` meets its contract: a block not opened by the last second is not read, and of the others its closing decides.
use Rattle.window.specs.SlotLaws.{not_opened, by_closed}
use Rattle.window.proofs.latest.is_read.Goals as goal

pub returns-then-block_word-last : goal.returns-then-block_word-last
returns-then-block_word-last c =
    by_closed _ _ _ c.block_word.ensures c.if-block_word-last.true c.block_word-then-block_word-last.ensures

pub returns-else-block_word-last : goal.returns-else-block_word-last
returns-else-block_word-last c = not_opened _ _ _ c.block_word.ensures c.if-block_word-last.false
