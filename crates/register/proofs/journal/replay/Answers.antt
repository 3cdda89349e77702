-- `replay` meets its contract. The invariant: what is left of the journal, played on from here, gives what the whole gives.
use mathlib.Core.Path.{◌∙◌}
use native.Mathlib.Omega.{arith}
use Rattle.register.specs.JournalLaws.{byte_is, at_next, at_other, at_end}
use Rattle.register.specs.Rebuilt.{rebuilt}
use Rattle.register.proofs.journal.replay.Goals as goal

pub returns-in_default : goal.returns-in_default
returns-in_default c =
    let h = c.in-Some.ensures.steps in
    let r = at_other c.loop-entry.invariant.going _ _ h.1.0 (h.1.1 ∙ c.loop-entry.invariant.size) c.play_words.ensures c.in_default.is in
    record { replayed = r; rebuilt = rebuilt r.store }

pub loop-entry-preserved : goal.loop-entry-preserved
loop-entry-preserved c =
    let h = c.in-Some.ensures.steps in
    record {
      going = rw (c.from-accepted.ensures ∙ byte_is _) (at_next c.loop-entry.invariant.going _ _ h.1.0 (h.1.1 ∙ c.loop-entry.invariant.size) c.play_words.ensures c.in-Some-play_words.is);
      size = h.0 ∙ c.loop-entry.invariant.size;
    }

pub returns : goal.returns
returns c =
    let r = at_end c.loop-entry.invariant.going (omega (arith, c.in-None.ensures.steps.1.0, c.loop-entry.invariant.size)) in
    record { replayed = r; rebuilt = rebuilt r.store }
