-- `taken::take` is safe: the slot is one of the block's.
use native.Mathlib.Omega.{arith}
use Rattle.array_build.specs.MayLaws.{may_end}
use Rattle.array_build.proofs.taken.take.Goals as goal

pub end_record-requires : goal.end_record-requires
end_record-requires c = may_end c.requires.held _ _ _ c.requires.numbered (omega (arith, c.if-s-k.false))
