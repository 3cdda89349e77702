-- `address::write` meets its contract: the word at the address's place is stored, and no word more or fewer.
use Rattle.layout.specs.OffsetLaws.{in_store, ran_write}
use Rattle.layout.proofs.address.write.Goals as goal

pub bounds-store-at : goal.bounds-store-at
bounds-store-at c = in_store c.requires.held c.offset_of-at.ensures

pub returns : goal.returns
returns c = ran_write c.requires.held _ c.offset_of-at.ensures
