-- `replay` meets its contract. The invariant: what is left of the journal, played on from here, gives what the whole gives.
use mathlib.Core.Path.{◌≡◌}
use Rattle.std.specs.Slice.Iter.{chunks_exact_rest, chunks_exact_size}
use Rattle.register.specs.JournalLaws.{Going}
use Rattle.register.proofs.journal.replay.Given as goal

abbrev pub invariant-loop-entry : goal.invariant-loop-entry
invariant-loop-entry l = record {
  going : Going l.initial.store l.journal l.store (chunks_exact_rest l.entry-iterator) l.entries l.accepted;
  size : chunks_exact_size l.entry-iterator ≡ 6;
}
