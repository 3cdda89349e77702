-- `standing::bit` meets its contract: a shift brings the bit to the end.
use Rattle.base.specs.Bits.{bit_shift}
use Rattle.layout.proofs.standing.bit.Goals as goal

pub returns : goal.returns
returns c = rw (bit_shift c.args.k c.args.x)
