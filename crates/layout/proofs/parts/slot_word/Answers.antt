-- `parts::slot_word` meets its contract: the word at its place.
use mathlib.Core.Path.{refl}
use Rattle.layout.specs.Parts.{slot_word}
use Rattle.layout.proofs.parts.slot_word.Goals as goal

pub returns : goal.returns
unfolding slot_word
returns c = refl
