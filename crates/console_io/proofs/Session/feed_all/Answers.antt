-- A session's `feed_all` meets its contract: the bytes are fed in order, until the run is over.
use Rattle.std.proofs.Common.{sym}
use Rattle.console_io.specs.SessionLaws.{to_over, to_whole, to_next}
use Rattle.console_io.proofs.Session.feed_all.Goals as goal

pub returns-then-is_over : goal.returns-then-is_over
returns-then-is_over c = to_over c.loop-byte.invariant (sym c.if-is_over.ensures)

pub loop-byte-preserved : goal.loop-byte-preserved
loop-byte-preserved c = to_next c.loop-byte.invariant c.loop-byte-test.true (sym c.if-is_over.ensures) c.feed.ensures

pub returns : goal.returns
returns c = to_whole c.loop-byte.invariant c.loop-byte-test.false
