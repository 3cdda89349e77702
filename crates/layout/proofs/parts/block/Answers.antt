-- `parts::block` meets its contract: block n's words, all inside the layout.
use Rattle.layout.specs.OffsetLaws.{block_in_store}
use Rattle.layout.specs.PartsLaws.{as_block}
use Rattle.layout.proofs.parts.block.Goals as goal

pub part-requires : goal.part-requires
part-requires c = block_in_store c.requires.held c.block_start-start.ensures c.block_words.ensures

pub returns : goal.returns
returns c = as_block c.block_start-start.ensures.is c.block_words.ensures.is c.part.ensures
