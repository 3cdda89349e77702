-- `Block::is_bad` meets its contract.
use mathlib.Core.Path.{refl, sym, ◌∙◌}
use Rattle.decisions.specs.SoundLaws.{bad-block}
use Rattle.decisions.proofs.block.Block.is_bad.Goals as goal

pub returns-then-links_are_bad : goal.returns-then-links_are_bad
returns-then-links_are_bad c = sym (bad-block _ _ _ (sym c.links_are_bad.ensures ∙ c.if-links_are_bad.true) refl)

pub returns : goal.returns
returns c = sym (bad-block _ _ _ (sym c.links_are_bad.ensures ∙ c.if-links_are_bad.false) (sym c.slots_are_bad.ensures))
