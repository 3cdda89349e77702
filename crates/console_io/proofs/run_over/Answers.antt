-- `run_over` meets its contract: the names line, every read, and the end.
use Rattle.console_io.specs.SessionLaws.{ran}
use Rattle.console_io.proofs.run_over.Goals as goal

pub returns : goal.returns
returns g c = ran c.new-session.ensures c.read_all.ensures c.finish.ensures
