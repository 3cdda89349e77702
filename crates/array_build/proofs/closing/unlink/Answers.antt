-- `closing::unlink` is safe: the block's up and right were read; its up is less, and its right is a block of the store.
use native.Mathlib.Omega.{arith}
use Rattle.array_build.specs.MayLaws.{may_unlink}
use Rattle.array_build.proofs.closing.unlink.Goals as goal

pub unlink-requires : goal.unlink-requires
unlink-requires c =
    may_unlink c.requires.held _ _ _ c.requires.numbered
    (omega (arith, c.if-x-up.false, c.read-up.ensures.value))
    (record { low = omega (arith, c.if-right-lt1.false, c.read-right.ensures.value); high = omega (arith, c.if-s-right.false, c.read-right.ensures.value) })
