-- `taken::take_out` is safe: each turn leaves a store of the same settings, and room for the records that are left.
use Rattle.std.proofs.Common.{◌+◌, ◌≤◌, length}
use Rattle.layout.specs.OnWords.{Held}
use Rattle.layout.specs.SlotsLeft.{slots_left}
use Rattle.array_build.proofs.taken.take_out.Given as goal

abbrev pub invariant-loop-k : goal.invariant-loop-k
invariant-loop-k l = record { held : Held l.s l.store; room : length l.taken.items + length (slots_left l.k-iterator) ≤ 32 }
