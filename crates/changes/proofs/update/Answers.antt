-- `update` meets its contract: it is `clearing`.
use Rattle.calls.specs.Step.{update}
use Rattle.changes.specs.Replied.{clearing}
use Rattle.changes.proofs.update.Goals as goal

pub returns : goal.returns
unfolding update clearing
returns c = c.clearing.ensures
