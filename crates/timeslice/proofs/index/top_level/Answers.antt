-- `top_level` meets its contract.
use Rattle.timeslice.specs.SearchLaws.{top_ground, top_first, top_second}
use Rattle.timeslice.proofs.index.top_level.Goals as goal

pub returns-then-entries-le-PAGE : goal.returns-then-entries-le-PAGE
returns-then-entries-le-PAGE c = top_ground _ c.entries.ensures c.if-entries-le-PAGE.true

pub returns-then-entries-le-PAGE-2 : goal.returns-then-entries-le-PAGE-2
returns-then-entries-le-PAGE-2 c = top_first _ c.entries.ensures c.if-entries-le-PAGE.false c.entries-2.ensures c.if-entries-le-PAGE-2.true

pub returns : goal.returns
returns c = top_second _ c.entries.ensures c.if-entries-le-PAGE.false c.entries-2.ensures c.if-entries-le-PAGE-2.false
