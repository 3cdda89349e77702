-- `address::read` meets its contract: the word at the address's place.
use Rattle.layout.specs.OffsetLaws.{in_store, ran_read}
use Rattle.layout.proofs.address.read.Goals as goal

pub bounds-store-place : goal.bounds-store-place
bounds-store-place c = in_store c.requires.held c.offset_of-place.ensures

pub returns : goal.returns
returns c = ran_read c.requires.held c.offset_of-place.ensures
