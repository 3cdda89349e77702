-- `moves::move_all` meets its contract: a turn for each standing slot (LoopLaws).
use Rattle.layout.specs.Standing.{slots}
use Rattle.layout.specs.SlotsLeft.{slots_left}
use Rattle.placing.proofs.LoopLaws.{Going}
use Rattle.placing.proofs.moves.move_all.Given as goal

abbrev pub invariant-loop-k : goal.invariant-loop-k
invariant-loop-k g l =
    Going (λ s. g.M.Moves.program s l.x l.second) l.initial.store l.initial.head (slots l.fn.bits) l.store l.head (slots_left l.k-iterator)
