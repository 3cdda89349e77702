-- `look_up` meets its contract: the page lies in its level, and its entries are its first words.
use Rattle.std.proofs.Common.{sym, ◌∙◌, arith}
use Rattle.timeslice.specs.SearchLaws.{long_enough, page_in, looked, entry_small}
use Rattle.timeslice.proofs.past.Past.look_up.Goals as goal

pub level-requires : goal.level-requires
level-requires c = long_enough c.args.self.now

pub page-page-requires : goal.page-page-requires
page-page-requires c = page_in c.requires c.level.ensures

pub returns-in_err-last : goal.returns-in_err-last
returns-in_err-last c =
    c.from_residual.ensures ∙ sym c.in_err-last.was
    ∙ looked c.args.self.now c.level.ensures c.page-page.ensures c.on_page-count.ensures c.last_up_to.ensures

pub overflow_cast-result : goal.overflow_cast-result
overflow_cast-result c = omega (arith, entry_small _ _ _ c.last_up_to.ensures c.in_ok-last.was)

pub returns : goal.returns
returns c =
    sym c.in_ok-last.was ∙ looked c.args.self.now c.level.ensures c.page-page.ensures c.on_page-count.ensures c.last_up_to.ensures
