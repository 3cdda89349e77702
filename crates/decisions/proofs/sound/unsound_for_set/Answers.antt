-- `sound::unsound_for_set` meets its contract.
use borrow.Author.Tests.{eq-eqb}
use Rattle.decisions.specs.SoundLaws.{bad_acceptor}
use Rattle.decisions.proofs.sound.unsound_for_set.Goals as goal

pub returns-then-found-eq0 : goal.returns-then-found-eq0
unfolding bad_acceptor
returns-then-found-eq0 c = simp (eq-eqb _ _ c.if-found-eq0.true)
