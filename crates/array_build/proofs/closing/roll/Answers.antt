-- `closing::roll` is safe: a block is left, and block N is one of the store's.
use native.Mathlib.Omega.{arith}
use Rattle.array_build.specs.MayLaws.{may_open}
use Rattle.array_build.proofs.closing.roll.Goals as goal

pub open_block-opened-requires : goal.open_block-opened-requires
open_block-opened-requires c = may_open c.requires _ _ (omega (arith, c.if-h-last.false))
