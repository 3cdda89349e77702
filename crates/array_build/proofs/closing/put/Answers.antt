-- `closing::put` is safe: the acceptor's next slot and the tag are the layout's.
use native.Mathlib.Omega.{arith}
use Rattle.array_build.specs.MayLaws.{may_put}
use Rattle.array_build.proofs.closing.put.Goals as goal

pub put_record-requires : goal.put_record-requires
put_record-requires c =
    may_put c.requires _ _ _ _ (record { low = omega (arith, c.if-h-lt1.false); high = omega (arith, c.if-s-h.false) })
    (omega (arith, c.if-s-h-2.false)) (omega (arith, c.if-s-record.false))
