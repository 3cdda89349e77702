-- `test` meets its contract: each test is one of the table's.
use Rattle.std.proofs.Common.{arith}
use Rattle.timeslice.specs.TurnedAwayLaws.{own_open, own_late, own_rows, own_list, own_none}
use Rattle.timeslice.proofs.past.Past.test.Goals as goal

pub returns-then-self : goal.returns-then-self
returns-then-self c = own_open c.if-self.true

pub returns-then-self-2 : goal.returns-then-self-2
returns-then-self-2 c = own_late (omega arith) c.if-self-2.true

pub returns-then-rows-self : goal.returns-then-rows-self
returns-then-rows-self c = own_rows (omega arith) c.if-self-2.false c.if-rows-self.true

pub returns-then-list-self : goal.returns-then-list-self
returns-then-list-self c = own_list (omega arith) c.if-self-2.false c.if-rows-self.false c.if-list-self.true

pub returns : goal.returns
returns c = own_none (omega arith) c.if-self-2.false c.if-rows-self.false c.if-list-self.false
