-- `Opened::block` meets its contract: the part of the store is the reader's block.
use Rattle.queries.specs.BlockLaws.{block_is}
use Rattle.queries.proofs.opened.Opened.block.Goals as goal

pub returns-clause-read : goal.returns-clause-read
returns-clause-read c = let r = c.args.self.now.readable in block_is r.is r.held c.block.ensures
