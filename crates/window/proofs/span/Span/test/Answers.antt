-- `test` meets its contract: each test is one of the table's.
use Rattle.window.specs.TurnedAwayLaws.{one_open, last_before, last_late, rows_short, none_applies}
use Rattle.window.proofs.span.Span.test.Goals as goal

pub returns-then-is_open : goal.returns-then-is_open
returns-then-is_open c = one_open c.is_open.ensures c.if-is_open.true

pub returns-then-self : goal.returns-then-self
returns-then-self c = last_before c.is_open.ensures c.if-is_open.false c.if-self.true

pub returns-then-self-2 : goal.returns-then-self-2
returns-then-self-2 c = last_late c.is_open.ensures c.if-is_open.false c.if-self.false c.if-self-2.true

pub returns-then-rows-self : goal.returns-then-rows-self
returns-then-rows-self c = rows_short c.is_open.ensures c.if-is_open.false c.if-self.false c.if-self-2.false c.if-rows-self.true

pub returns : goal.returns
returns c = none_applies c.is_open.ensures c.if-is_open.false c.if-self.false c.if-self-2.false c.if-rows-self.false
