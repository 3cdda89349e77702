-- `stood_in` meets its contract: each answer is a law of one record.
use Rattle.window.specs.SlotLaws.{from_later, to_before, by_both}
use Rattle.window.proofs.latest.stood_in.Goals as goal
use Rattle.window.proofs.latest.stood_in.Goals.{then-last-from-via-then-last-from, then-last-from-via-else-last-from+then-to-first}

pub returns-then-last-from : goal.returns-then-last-from
returns-then-last-from c = λ s n.
    elim c.then-last-from.branch [
      | then-last-from-via-then-last-from w ↦ from_later _ _ _ _ c.word-from.ensures c.word-to.ensures s n w.if-last-from.true
      | then-last-from-via-else-last-from+then-to-first w ↦
          to_before _ _ _ _ c.word-from.ensures c.word-to.ensures s n w.if-last-from.false w.if-to-first.true
    ]

pub returns : goal.returns
returns c = λ s n. by_both _ _ _ _ c.word-from.ensures c.word-to.ensures s n c.if-last-from.false c.if-to-first.false
