-- `changing::clear_tag` is safe: the place that was read is a slot of a block of the store.
use Prim.Native.Nat.{◌≤◌}
use native.Mathlib.Nat.{mod-lt}
use native.Mathlib.Omega.{arith}
use Rattle.array_build.specs.MayLaws.{may_end}
use Rattle.array_build.proofs.changing.clear_tag.Goals as goal

pub end_record-requires : goal.end_record-requires
end_record-requires c =
    let s = c.args.h.settings in
    let some : 1 ≤ s.block = omega (arith, c.requires.held.within.least) in
    may_end c.requires.held _ _ _ (record { low = omega (arith, c.block_of-n.ensures); high = omega (arith, c.if-s-n.false) })
    (rw c.slot_of-k.ensures (mod-lt _ some))
