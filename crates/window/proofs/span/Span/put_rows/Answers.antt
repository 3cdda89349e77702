-- `put_rows` meets its contract: one tag more is a law of rows.
use Rattle.std.proofs.Common.{arith, length-take}
use Rattle.std.proofs.lemmas.List.{get_or-take}
use Rattle.window.specs.RowedLaws.{rowed_none, rowed_more}
use Rattle.window.proofs.span.Span.put_rows.Goals as goal

pub loop-place-init : goal.loop-place-init
loop-place-init c = rowed_none _ _ _

pub loop-place-preserved : goal.loop-place-preserved
loop-place-preserved c =
    rowed_more _ _ _ c.loop-place.invariant
    (get_or-take c.args.self.now.opened.head.settings.tags c.args.best.now _ 0 (omega (arith, c.loop-place-test.true, simp length-take at c.loop-place-test.true)))
    c.put_row-given.ensures
