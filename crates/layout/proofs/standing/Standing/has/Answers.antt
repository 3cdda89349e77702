-- `Standing::has` meets its contract: slot k is a bit of the word that has it.
use Rattle.std.proofs.Common.{sym, ◌∙◌}
use Rattle.layout.specs.StandingLaws.{bit_stands}
use Rattle.layout.proofs.standing.Standing.has.Goals as goal

pub returns : goal.returns
returns c = c.bit.ensures ∙ rw c.word.ensures (sym (bit_stands _ _ c.requires))
