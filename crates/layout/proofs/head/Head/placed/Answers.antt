-- `Head::placed` meets its contract: within the limits the product is small.
use borrow.Author.Tests.{eq-eqb, ne_eqb}
use Rattle.layout.specs.Head.{placed}
use Rattle.layout.proofs.head.Head.placed.Goals as goal

pub returns-then-self-eq0 : goal.returns-then-self-eq0
unfolding placed
returns-then-self-eq0 c = simp (eq-eqb _ _ c.if-self-eq0.true)

pub returns : goal.returns
unfolding placed
returns c = simp (ne_eqb _ _ c.if-self-eq0.false)
