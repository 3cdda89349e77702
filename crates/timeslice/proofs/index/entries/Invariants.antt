-- The loop's invariant: the entries of the levels passed.
use Rattle.std.proofs.Common.{◌≡◌}
use Rattle.calls.specs.Walk.{entries}
use Rattle.timeslice.proofs.index.entries.Given as goal

abbrev pub invariant-loop : goal.invariant-loop
invariant-loop l = l.count ≡ entries l.opened l.counter
