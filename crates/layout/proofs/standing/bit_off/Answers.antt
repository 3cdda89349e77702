-- `standing::bit_off` meets its contract: the word less the bit's weight, if it has it.
use Rattle.base.specs.Bits.{less_bit}
use Rattle.layout.proofs.standing.bit_off.Goals as goal

pub returns : goal.returns
returns c = rw c.weight.ensures (less_bit _ _)
