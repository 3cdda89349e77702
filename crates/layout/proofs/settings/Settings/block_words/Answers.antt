-- `Settings::block_words` meets its contract: the definition, and its bounds from the limits.
use mathlib.Core.Path.{refl}
use native.Mathlib.Omega.{arith}
use Rattle.layout.specs.Sizes.{block_len}
use Rattle.layout.proofs.settings.Settings.block_words.Goals as goal

pub returns : goal.returns
unfolding block_len
returns c = record { is = refl; some = omega arith; small = omega arith }
