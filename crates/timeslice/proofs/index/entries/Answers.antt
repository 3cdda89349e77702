-- `entries` meets its contract: level 0 has an entry for each block opened, and each further level one for each page.
use Rattle.std.proofs.Common.{◌∙◌}
use Rattle.timeslice.specs.SearchLaws.{entries_first, entries_more}
use Rattle.timeslice.proofs.index.entries.Goals as goal

pub loop-init : goal.loop-init
loop-init c = entries_first _

pub loop-preserved : goal.loop-preserved
loop-preserved c = c.div_ceil-count.ensures ∙ rw c.loop.invariant (entries_more _ _)
