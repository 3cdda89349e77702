-- `Standing::first` meets its contract: the lowest one of the first word that has one.
use borrow.Author.Tests.{eq-eqb, ne_eqb}
use Rattle.layout.specs.Standing.{first_slot}
use Rattle.layout.proofs.standing.Standing.first.Goals as goal

pub returns-then-self-eq0 : goal.returns-then-self-eq0
unfolding first_slot
returns-then-self-eq0 c = simp (eq-eqb _ _ c.if-self-eq0.true)

pub returns : goal.returns
unfolding first_slot
returns c = simp (ne_eqb _ _ c.if-self-eq0.false)
