-- `parts::page` meets its contract: 16 words of the level.
use Rattle.layout.specs.PartsLaws.{as_page}
use Rattle.layout.proofs.parts.page.Goals as goal

pub returns : goal.returns
returns c = as_page c.args.e c.part.ensures
