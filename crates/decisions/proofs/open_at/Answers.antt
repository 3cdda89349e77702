-- `open_at` meets its contract: the store first, then the second.
use borrow.Author.Tests.{lt-ltb, le-ltb, le-leb, lt-leb}
use Rattle.layout.specs.RefusalLaws.{err_kept}
use Rattle.decisions.specs.VerdictLaws.{store_shut, time_open, time_early, time_fits}
use Rattle.decisions.proofs.open_at.Goals as goal

pub returns-in_err-found : goal.returns-in_err-found
returns-in_err-found c = rw (err_kept c.from_residual.ensures.1) (store_shut c.in_err-found.ensures)

pub returns-then-second-ge-OPEN : goal.returns-then-second-ge-OPEN
returns-then-second-ge-OPEN c = time_open c.in_ok-found.ensures (le-leb _ _ c.if-second-ge-OPEN.true)

pub returns-then-second-found : goal.returns-then-second-found
returns-then-second-found c =
    time_early c.in_ok-found.ensures (lt-leb _ _ c.if-second-ge-OPEN.false) (lt-ltb _ _ c.if-second-found.true)

pub returns : goal.returns
returns c =
    time_fits c.in_ok-found.ensures (lt-leb _ _ c.if-second-ge-OPEN.false) (le-ltb _ _ c.if-second-found.false)
