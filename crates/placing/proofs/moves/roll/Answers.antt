-- `moves::roll` meets its contract: a block opens, and the one before it, if any, is judged.
use borrow.Author.Tests.{ne_eqb}
use Rattle.layout.specs.Able.{able_next, able_passed}
use Rattle.calls.specs.Placing.{roll}
use Rattle.placing.proofs.JudgeLaws.{judge_straight}
use Rattle.placing.proofs.moves.roll.Goals as goal

pub judge-requires : goal.judge-requires
unfolding roll
judge-requires c =
    let m = c.open_block-opened.ensures in
    rw (m.settings, judge_straight) (able_passed (ne_eqb _ _ c.if-last-eq0.false) (able_next
    c.requires m.ran))
