-- `Settings::words` meets its contract: the sum is the layout's length, which is small.
use native.Mathlib.Omega.{arith}
use native.Mathlib.Nat.{mul-le-mul}
use Rattle.layout.specs.Sizes.{layout_len}
use Rattle.layout.proofs.settings.Settings.words.Goals as goal

pub returns : goal.returns
unfolding layout_len
returns c = record { is = cc; small = omega (arith, mul-le-mul c.requires.blocks c.block_words-block.ensures.small) }
