-- A session's `new` meets its contract: nothing stands in the words, and the names line is handed on.
use Rattle.std.proofs.Common.{◌∙◌}
use Rattle.console_run.specs.Console.{blank}
use Rattle.console_io.specs.SinkLaws.{emit_as}
use Rattle.console_io.proofs.Session.new.Goals as goal

pub returns : goal.returns
unfolding blank
returns c = record {
  begins = rw c.new.ensures;
  sent = emit_as (c.as_slice.ensures.value ∙ c.names_line.ensures) c.emit.ensures;
}
