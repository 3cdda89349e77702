-- `neighbour` meets its contract: the left of a closed block, else the last child of its up, which is the head's for block 0.
use Rattle.timeslice.specs.PathLaws.{own_left, root_child, up_child, root_is}
use Rattle.timeslice.proofs.past.Past.neighbour.Goals as goal

pub returns-then-block_word : goal.returns-then-block_word
returns-then-block_word c =
    own_left _ _ c.block-block.ensures.read c.block_word.ensures
    c.if-block_word.true c.block_word-then-block_word.ensures

pub returns-then-up-eq0 : goal.returns-then-up-eq0
returns-then-up-eq0 c =
    root_child _ _ c.block-block.ensures.read c.block_word.ensures c.if-block_word.false
    c.block_word-up.ensures c.if-up-eq0.true (root_is c.args.self.now)

pub returns : goal.returns
returns c =
    up_child _ _ c.block-block.ensures.read c.block_word.ensures c.if-block_word.false
    c.block_word-up.ensures c.if-up-eq0.false c.block-above.ensures.read
    c.block_word-2.ensures
