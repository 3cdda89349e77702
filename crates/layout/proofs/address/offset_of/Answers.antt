-- `address::offset_of` meets its contract: each kind of address by its definition.
use mathlib.Core.Path.{refl}
use Rattle.layout.specs.OffsetLaws.{placed_as, placed_behind}
use Rattle.layout.proofs.address.offset_of.Goals as goal

pub returns-in-Head : goal.returns-in-Head
returns-in-Head c = placed_as c.args.s c.requires.valid c.requires.within c.in-Head.is refl

pub returns-in-Time : goal.returns-in-Time
returns-in-Time c = placed_behind c.args.s _ c.requires.valid c.requires.within c.in-Time.is c.level_start.ensures.is refl

pub returns-in-Dir : goal.returns-in-Dir
returns-in-Dir c = placed_as c.args.s c.requires.valid c.requires.within c.in-Dir.is refl

pub returns-in-Field : goal.returns-in-Field
returns-in-Field c = placed_behind c.args.s _ c.requires.valid c.requires.within c.in-Field.is c.block_start.ensures.is refl

pub returns-in-Bits : goal.returns-in-Bits
returns-in-Bits c = placed_behind c.args.s _ c.requires.valid c.requires.within c.in-Bits.is c.block_start-in-Bits.ensures.is refl

pub returns-in-Slot : goal.returns-in-Slot
returns-in-Slot c = placed_behind c.args.s _ c.requires.valid c.requires.within c.in-Slot.is c.block_start-in-Slot.ensures.is refl
