-- A session's `feed_read` meets its contract: the bytes were fed, and there were some. (The check finds this alone, too. Part by part an edit is
-- refused with the values at which a part fails; else the search of the whole only gives up.)
use borrow.Author.Rules.{rules}
use Rattle.console_io.specs.SessionLaws.{fed_as}
use Rattle.console_io.proofs.Session.feed_read.Goals as goal

pub returns : goal.returns
returns c = record { fed = fed_as (search rules) c.feed_all.ensures; goes_on = search rules }
