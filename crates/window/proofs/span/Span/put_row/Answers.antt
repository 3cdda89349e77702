-- `put_row` meets its contract: no row of place 0, else the three words of its record.
use mathlib.Core.Path.{refl}
use Rattle.window.specs.RowedLaws.{no_row, one_row}
use Rattle.window.proofs.span.Span.put_row.Goals as goal

pub returns-then-place-eq0 : goal.returns-then-place-eq0
returns-then-place-eq0 c = no_row _ _ _ _ _ c.if-place-eq0.true

pub returns : goal.returns
returns c =
    rw c.put_row.ensures.words
    (one_row _ _ _ _ _ c.if-place-eq0.false refl c.record_at.ensures.block c.record_at.ensures.slot refl refl)
