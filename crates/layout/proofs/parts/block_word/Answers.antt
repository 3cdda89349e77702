-- `parts::block_word` meets its contract: the word at its place.
use mathlib.Core.Path.{refl}
use Rattle.layout.specs.Parts.{block_word}
use Rattle.layout.proofs.parts.block_word.Goals as goal

pub returns : goal.returns
unfolding block_word
returns c = refl
