-- `head::clear_layout` meets its contract: the layout's words from the start are set to zero.
use mathlib.Core.Path.{◌∙◌}
use Rattle.layout.specs.PartsLaws.{cleared_is}
use Rattle.layout.proofs.head.clear_layout.Goals as goal

pub returns : goal.returns
returns c = c.zero_part.ensures ∙ cleared_is c.args.s c.args.store.now c.requires.s_in_bounds c.words.ensures.is
