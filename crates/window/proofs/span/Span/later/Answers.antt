-- `later` meets its contract: the record noted is read again by its place.
use mathlib.Core.Path.{refl}
use Rattle.window.specs.SlotLaws.{none_yet, as_late, still_later}
use Rattle.window.proofs.span.Span.later.Goals as goal

pub returns-then-noted-eq0 : goal.returns-then-noted-eq0
returns-then-noted-eq0 c = none_yet _ _ _ _ _ c.if-noted-eq0.true

pub returns-then-word-from : goal.returns-then-word-from
returns-then-word-from c =
    as_late _ _ _ _ _ c.if-noted-eq0.false refl c.record_at.ensures.block c.record_at.ensures.slot c.word.ensures c.if-word-from.true

pub returns : goal.returns
returns c = still_later _ _ _ _ _ c.if-noted-eq0.false refl c.record_at.ensures.block c.record_at.ensures.slot c.word.ensures c.if-word-from.false
