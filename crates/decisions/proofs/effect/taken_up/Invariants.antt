-- `effect::taken_up` meets its contract. The loop's invariant: what is left to take up gives the whole.
use mathlib.Core.Path.{◌≡◌}
use Prim.Native.Nat.{◌-◌}
use Rattle.calls.specs.Refusals.{taken_up}
use Rattle.decisions.proofs.effect.taken_up.Given as goal

abbrev pub invariant-loop-k : goal.invariant-loop-k
invariant-loop-k l = taken_up l.taken l.k (l.to - l.k) ≡ taken_up l.initial.taken l.initial.k (l.to - l.initial.k)

abbrev pub decreases-loop-k : goal.decreases-loop-k
decreases-loop-k l = l.to - l.k
