-- What contracts see of the console between two bytes: its fields.
use Rattle.std.specs.Prelude.{ℕ}
use Rattle.console_text.specs.Lines.{Text}
use Rattle.console_run.specs.declared.turn.Stage.{Stage}

pub record Between : Type 0 where
  pub stage : Stage
  pub gather : Text
  pub number : ℕ
