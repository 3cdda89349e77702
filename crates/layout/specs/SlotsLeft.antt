-- The slots that an iterator over standing slots has still to give.
use Rattle.std.specs.Prelude.{List, ℕ}
use Rattle.layout.specs.declared.standing.Slots.{Slots}
use Rattle.layout.specs.Standing.{slots}

abbrev pub slots_left : Slots → List ℕ
slots_left s = slots s.left
