-- `effect::taken_up` meets its contract. The loop's invariant: what is left to take up gives the whole.
use mathlib.Core.Path.{sym, ap, ◌∙◌}
use Prim.Native.Nat.{◌+◌, ◌-◌}
use native.Mathlib.Omega.{arith}
use Rattle.layout.specs.declared.standing.Standing.{Standing}
use Rattle.calls.specs.Refusals.{taken_up}
use Rattle.decisions.specs.EffectLaws.{taken_more}
use Rattle.decisions.proofs.effect.taken_up.Goals as goal

pub loop-k-preserved : goal.loop-k-preserved
loop-k-preserved c =
    let k = c.loop-k.k in
    let to = c.args.to in
    ap (λ (b : Standing). taken_up b (k + 1) (to - (k + 1))) c.with-taken.ensures ∙ sym (taken_more c.loop-k.taken k to (omega arith))
    ∙ c.loop-k.invariant
