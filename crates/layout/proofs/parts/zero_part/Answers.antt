-- `parts::zero_part` meets its contract: the part that is lent comes back as zeros.
use Rattle.layout.specs.PartsLaws.{zeroed}
use Rattle.layout.proofs.parts.zero_part.Goals as goal

pub returns : goal.returns
returns c = let a = c.args in zeroed a.store.now a.start a.len c.requires _ c.zero_all.ensures
