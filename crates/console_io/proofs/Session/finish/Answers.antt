-- A session's `finish` meets its contract: what the last step says is handed on, then what is said of a missing line.
use Rattle.console_io.specs.SessionLaws.{finished}
use Rattle.console_io.proofs.Session.finish.Goals as goal

pub returns : goal.returns
returns c =
    let takes = rw (← c.console.view_is) at c.last-step.ensures.takes in
    finished _ _ _ takes c.print_said-printed.ensures c.at_end-missing.ensures c.print_said.ensures
