-- `standing::bit_on` meets its contract: the word or the bit's weight.
use Rattle.base.specs.Bits.{or_bit}
use Rattle.layout.proofs.standing.bit_on.Goals as goal

pub returns : goal.returns
returns c = rw c.weight.ensures (or_bit _ _)
