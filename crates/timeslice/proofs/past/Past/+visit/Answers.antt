-- `visit` and `visit_inside` meet their contracts: each way out of a link, and of the two visits inside a block, is a law of visits.
use Rattle.std.proofs.Common.{arith}
use Rattle.timeslice.specs.ListedLaws.{visit_none, visit_low, visit_high, visit_ended, visit_goes, left_room, inside_goes}
use Rattle.timeslice.proofs.past.Past.+visit.Goals as goal

pub visit-returns-then-number-eq0 : goal.visit-returns-then-number-eq0
visit-returns-then-number-eq0 t c = visit_none c.if-number-eq0.true

pub visit-returns-else-number-eq0 : goal.visit-returns-else-number-eq0
visit-returns-else-number-eq0 t c = visit_low c.if-number-eq0.false c.if-number-lower.true

pub visit-returns-then-upper-number : goal.visit-returns-then-upper-number
visit-returns-then-upper-number t c = visit_high c.if-number-lower.false c.if-upper-number.true

pub visit-returns-then-closed-self : goal.visit-returns-then-closed-self
visit-returns-then-closed-self t c =
    visit_ended c.if-number-lower.false c.if-upper-number.false c.block-block.ensures.read
    c.block_word-closed.ensures c.if-closed-self.true

pub visit-returns : goal.visit-returns
visit-returns t c =
    visit_goes c.if-number-lower.false c.if-upper-number.false c.block-block.ensures.read
    c.block_word-closed.ensures c.if-closed-self.false c.visit_inside.ensures

pub visit_inside-visit-requires-2 : goal.visit_inside-visit-requires-2
visit_inside-visit-requires-2 t c = (
  omega (arith, c.decreases, c.requires.low, c.requires.high),
  left_room c.requires c.block-block.ensures.read c.block_word-child.ensures c.visit.ensures c.in_ok-after.was
      c.visit.auto.list,
)

pub visit_inside-returns : goal.visit_inside-returns
visit_inside-returns t c =
    inside_goes c.requires c.block-block.ensures.read c.block_word-child.ensures c.visit.ensures c.in_ok-after.was
    c.block_word-left.ensures c.visit-2.ensures
