-- `head::write_head` meets its contract: sixteen zeros, then ten words by their places.
use mathlib.Core.Path.{refl}
use Rattle.std.specs.Prelude.{◌≡◌, length, take}
use Rattle.std.proofs.Common.{arith, length-take}
use Rattle.layout.specs.Sizes.{head_len}
use Rattle.layout.specs.Head.{with_head, head_words}
use Rattle.layout.proofs.head.write_head.Goals as goal

pub returns : goal.returns
unfolding with_head head_words
returns c =
    let long : length (take head_len c.args.store.now) ≡ head_len = simp length-take (omega (arith, c.requires)) in
    rw (c.zero_all.ensures, long) refl
