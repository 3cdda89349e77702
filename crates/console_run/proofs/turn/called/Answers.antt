-- `turn::called` meets its contract: one step of the register, and its answer.
use Rattle.console_run.specs.TurnLaws.{called_is}
use Rattle.console_run.proofs.turn.called.Goals as goal

pub returns-clause-does : goal.returns-clause-does
returns-clause-does c = called_is _ _ _ c.apply-answer.ensures c.answered.ensures
