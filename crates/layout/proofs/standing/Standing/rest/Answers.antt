-- `Standing::rest` meets its contract: the first word that has a one loses its lowest.
use borrow.Author.Tests.{eq-eqb, ne_eqb}
use Rattle.layout.specs.Standing.{other_slots}
use Rattle.layout.proofs.standing.Standing.rest.Goals as goal

pub returns-then-self-eq0 : goal.returns-then-self-eq0
unfolding other_slots
returns-then-self-eq0 c = simp (c.lower_off.ensures, eq-eqb _ _ c.if-self-eq0.true)

pub returns : goal.returns
unfolding other_slots
returns c = simp (c.lower_off-2.ensures, ne_eqb _ _ c.if-self-eq0.false)
