use Rattle.std.proofs.Common.{◌∙◌, sym}
use Rattle.model.proofs.RestLaws.{same_rests, equal_rests}
use Rattle.model.proofs.store.Store.is_kept_from.Goals as goal

pub returns-clause-kept : goal.returns-clause-kept
returns-clause-kept c = λ h.
    let e = same_rests c.deref.result.now c.deref-2.result.now c.args.from c.get.result c.get-2.result
    c.get.ensures.lookup c.get-2.ensures.lookup (sym c.eq.ensures ∙ h)
    in cc

pub returns-clause-same : goal.returns-clause-same
returns-clause-same c = λ n e.
    c.eq.ensures ∙ equal_rests c.deref.result.now c.deref-2.result.now c.args.from c.get.result c.get-2.result
    c.get.ensures.lookup c.get-2.ensures.lookup (cc) (cc)
