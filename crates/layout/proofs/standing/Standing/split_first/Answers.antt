-- `Standing::split_first` meets its contract: none stands, or the slots are the first and the others.
use Rattle.std.proofs.Common.{sym, ◌∙◌, arith}
use Rattle.layout.specs.StandingLaws.{slots_empty, slots_next}
use Rattle.layout.proofs.standing.Standing.split_first.Goals as goal

pub returns-then-is_empty : goal.returns-then-is_empty
returns-then-is_empty c = slots_empty c.args.self (sym c.is_empty.ensures ∙ c.if-is_empty.true)

pub returns : goal.returns
returns c =
    rw (c.first.ensures, c.rest.ensures)
    (slots_next c.args.self record { low = omega arith; high = omega arith } (sym c.is_empty.ensures ∙ c.if-is_empty.false))
