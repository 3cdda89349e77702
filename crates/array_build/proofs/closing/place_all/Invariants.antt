-- `closing::place_all` is safe: each turn leaves a store of the same settings.
use Rattle.array_build.specs.Kept.{Kept}
use Rattle.array_build.proofs.closing.place_all.Given as goal

abbrev pub invariant-loop-record : goal.invariant-loop-record
invariant-loop-record g l = Kept l.initial.head l.head l.store
