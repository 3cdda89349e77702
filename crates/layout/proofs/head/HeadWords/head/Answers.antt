-- `HeadWords::head` meets its contract: ten words by their places.
use mathlib.Core.Path.{refl}
use Rattle.layout.specs.Head.{head_of}
use Rattle.layout.proofs.head.HeadWords.head.Goals as goal

pub returns : goal.returns
unfolding head_of
returns c = refl
