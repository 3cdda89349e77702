-- `moves::judge` meets its contract: with fewer than q standing the block is unlinked, and its records move.
use Rattle.std.proofs.Common.{refl, sym, ◌∙◌}
use Rattle.layout.specs.Able.{able_first, able_next}
use Rattle.layout.specs.Moved.{stays, after, onto, if_taken, if_passed}
use Rattle.placing.specs.Steps.{judge_by}
use Rattle.placing.proofs.AbleLaws.{asks_standing, ran_standing, able_few}
use Rattle.placing.proofs.moves.judge.Goals as goal

pub standing-bits-requires-clause-numbered : goal.standing-bits-requires-clause-numbered
unfolding judge_by
standing-bits-requires-clause-numbered g c = asks_standing c.requires

pub unlink-unlinked-requires : goal.unlink-unlinked-requires
unfolding judge_by
unlink-unlinked-requires g c = able_first (able_few _ c.requires c.standing-bits.ensures c.too_few.ensures c.if-too_few.true)

pub move_all-requires : goal.move_all-requires
unfolding judge_by
move_all-requires g c =
    let m = c.unlink-unlinked.ensures in
    rw m.settings (able_next (able_few _ c.requires c.standing-bits.ensures c.too_few.ensures c.if-too_few.true) m.ran)

pub returns-then-too_few : goal.returns-then-too_few
unfolding judge_by
returns-then-too_few g c =
    let m = c.unlink-unlinked.ensures in
    after (ran_standing _ c.requires c.standing-bits.ensures)
    (if_taken (sym c.too_few.ensures ∙ c.if-too_few.true) (onto m (rw m.settings at c.move_all.ensures)))

pub returns : goal.returns
unfolding judge_by
returns g c =
    let r = ran_standing _ c.requires c.standing-bits.ensures in
    after r (if_passed (sym c.too_few.ensures ∙ c.if-too_few.false) (stays refl r.good))
