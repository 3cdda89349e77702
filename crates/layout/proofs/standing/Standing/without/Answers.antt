-- `Standing::without` meets its contract: one bit of one word is made 0.
use Rattle.std.proofs.Common.{sym, ◌∙◌}
use Rattle.base.specs.Bits.{without_bit}
use Rattle.layout.specs.StandingLaws.{lower_is, change_word}
use Rattle.layout.proofs.standing.Standing.without.Goals as goal

pub returns : goal.returns
returns c = let a = c.args in c.with_word.ensures ∙ rw (c.bit_off.ensures, c.word.ensures) (sym (lower_is a.self a.k ∙ change_word without_bit a.self a.k c.requires))
