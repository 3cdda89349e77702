-- `address::block_start` meets its contract: the blocks before block n lie inside the layout, so the sum is small.
use Rattle.layout.specs.OffsetLaws.{starts}
use Rattle.layout.proofs.address.block_start.Goals as goal

pub returns : goal.returns
returns c = starts c.requires.numbered c.requires.within c.block_words-len.ensures
