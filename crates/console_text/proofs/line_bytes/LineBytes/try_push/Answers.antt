-- A byte behind the line's leaves zeros behind it.
use Rattle.std.proofs.Common.{arith, length-set}
use Rattle.console_text.specs.HeldLaws.{padded_set}
use Rattle.console_text.proofs.line_bytes.LineBytes.try_push.Goals as goal

pub invariant_of-self : goal.invariant_of-self
invariant_of-self c =
    let line = c.self.inside in
    (simp length-set (omega arith), padded_set line.len line.room c.args.byte c.self.invariant.1)
