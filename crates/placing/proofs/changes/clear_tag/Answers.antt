-- `changes::clear_tag`: its parts may run one after the other, on the block and slot of the place that was read.
use Rattle.std.proofs.Common.{◌∙◌, ne_eqb}
use Rattle.layout.specs.Able.{able_first, able_next, able_passed, able_get}
use Rattle.calls.specs.Placing.{clear_tag}
use Rattle.placing.proofs.JudgeLaws.{judge_anew}
use Rattle.placing.proofs.changes.clear_tag.Goals as goal

pub read-place-requires-clause-valid : goal.read-place-requires-clause-valid
unfolding clear_tag
read-place-requires-clause-valid c = able_get _ (able_first c.requires.able)

pub write-requires-clause-valid : goal.write-requires-clause-valid
unfolding clear_tag
write-requires-clause-valid c = able_get _ (able_first c.requires.able)

pub judge-requires : goal.judge-requires
unfolding clear_tag
judge-requires c =
    let ended = rw (c.block_of-n.ensures, c.slot_of-k.ensures) at c.end_record.ensures in
    let a = able_next (able_next (able_next c.requires.able c.read-place.ensures) ended) c.write.ensures in
    rw (judge_anew, c.block_of-n.ensures) (able_passed (ne_eqb _ _ (λ e. c.if-n-h.false (c.block_of-n.ensures ∙ e))) a)
