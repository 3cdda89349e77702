-- `decide_advance` meets its contract: refused, or to go on from the head.
use mathlib.Core.List.{[]}
use Rattle.layout.specs.RefusalLaws.{err_kept}
use Rattle.decisions.specs.TestLaws.{none}
use Rattle.decisions.specs.VerdictLaws.{time_refused, own_passed}
use Rattle.decisions.proofs.decide_advance.Goals as goal

pub returns-in_err-found : goal.returns-in_err-found
returns-in_err-found c = rw (err_kept c.from_residual.ensures.1) (time_refused [] c.in_err-found.ensures)

pub returns : goal.returns
returns c = own_passed (λ h ws. []) c.in_ok-found.ensures none
