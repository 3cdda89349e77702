-- A session's `read_some` meets its contract: whatever the read answered, as many bytes of this chunk are fed.
use Rattle.console_io.specs.SessionLaws.{read_as}
use Rattle.console_io.proofs.Session.read_some.Goals as goal

pub returns : goal.returns
returns g c = read_as c.feed_read.ensures
