-- `play` meets its contract: each kind by its own call.
use Rattle.register.specs.JournalLaws.{entered, of_kind}
use Rattle.register.proofs.journal.play.Goals as goal

pub returns-in-1 : goal.returns-in-1
returns-in-1 c = entered (of_kind _ _ _ _ 1 c.in-1.is) c.register_start.ensures

pub returns-in-2 : goal.returns-in-2
returns-in-2 c = entered (of_kind _ _ _ _ 2 c.in-2.is) c.register_set.ensures

pub returns-in-3 : goal.returns-in-3
returns-in-3 c = entered (of_kind _ _ _ _ 3 c.in-3.is) c.register_clear.ensures

pub returns-in-4 : goal.returns-in-4
returns-in-4 c = entered (of_kind _ _ _ _ 4 c.in-4.is) c.register_update.ensures

pub returns-in-5 : goal.returns-in-5
returns-in-5 c = entered (of_kind _ _ _ _ 5 c.in-5.is) c.register_advance.ensures
