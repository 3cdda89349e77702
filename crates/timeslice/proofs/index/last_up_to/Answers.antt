-- `last_up_to` meets its contract: the search from the end stops at the first entry that is not after t.
use Rattle.std.proofs.Common.{rules}
use Rattle.timeslice.specs.SearchLaws.{last_is}
use Rattle.timeslice.proofs.index.last_up_to.Goals as goal

pub returns : goal.returns
returns c = last_is _ _ (search rules)
