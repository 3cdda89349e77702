-- `Standing::with` meets its contract: one bit of one word is made 1.
use Rattle.std.proofs.Common.{sym, ◌∙◌}
use Rattle.base.specs.Bits.{with_bit}
use Rattle.layout.specs.StandingLaws.{raise_is, change_word}
use Rattle.layout.proofs.standing.Standing.with.Goals as goal

pub returns : goal.returns
returns c = let a = c.args in c.with_word.ensures ∙ rw (c.bit_on.ensures, c.word.ensures) (sym (raise_is a.self a.k ∙ change_word with_bit a.self a.k c.requires))
