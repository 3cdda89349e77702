-- `print_said` meets its contract: the lines are handed on in order.
use Rattle.std.proofs.Common.{◌∙◌}
use Rattle.console_io.specs.SinkLaws.{emit_as, said_next, said_whole}
use Rattle.console_io.proofs.print_said.Goals as goal

pub loop-i-preserved : goal.loop-i-preserved
loop-i-preserved c =
    said_next _ _ _ c.line_count-i-end.ensures c.loop-i.invariant c.loop-i-test.true
    (emit_as (c.as_slice.ensures.value ∙ c.line_at-line.ensures) c.emit-next.ensures)

pub returns : goal.returns
returns c = said_whole _ _ _ c.line_count-i-end.ensures c.loop-i.invariant c.loop-i-test.false
