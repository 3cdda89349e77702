-- `address::wipe` meets its contract: the block's part of the store is set to zero.
use Rattle.layout.specs.OffsetLaws.{block_in_store, ran_wipe}
use Rattle.layout.proofs.address.wipe.Goals as goal

pub zero_part-requires : goal.zero_part-requires
zero_part-requires c = block_in_store c.requires.held c.block_start-start.ensures c.block_words.ensures

pub returns : goal.returns
returns c = ran_wipe c.requires.held c.block_start-start.ensures c.block_words.ensures c.zero_part.ensures
