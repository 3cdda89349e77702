-- `parts::level` meets its contract: every level ends before the directory.
use Rattle.layout.specs.PartsLaws.{as_level}
use Rattle.layout.proofs.parts.level.Goals as goal

pub returns : goal.returns
returns c = as_level c.level_start-start.ensures.is c.level_words.ensures c.part.ensures
