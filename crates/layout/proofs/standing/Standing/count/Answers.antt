-- `Standing::count` meets its contract: as many slots as ones, and those of two words side by side are counted apart.
use mathlib.Core.Path.{sym, ◌∙◌}
use native.Mathlib.Omega.{arith}
use native.Mathlib.Nat.{add_comm}
use lib.Count.{ones_cat}
use Rattle.base.specs.Slots.{slots_count}
use Rattle.layout.proofs.standing.Standing.count.Goals as goal

pub returns : goal.returns
returns c =
    let b = c.args.self in
    rw (c.from.ensures, c.from-2.ensures)
    (ones_cat 32 b.high b.low (omega arith) ∙ add_comm _ _ ∙ sym (slots_count b.low b.high (omega arith) (omega arith)))
