-- `clear` meets its contract: it is `clearing`.
use Rattle.calls.specs.Step.{clear}
use Rattle.changes.specs.Replied.{clearing}
use Rattle.changes.proofs.clear.Goals as goal

pub returns : goal.returns
unfolding clear clearing
returns c = c.clearing.ensures
