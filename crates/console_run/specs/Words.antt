-- The lent words behind the references that the code holds, and that it keeps these.
use Rattle.std.specs.Prelude.{◌≡◌}
use Rattle.console_run.specs.declared.lent.LentWords.{LentWords}
use Rattle.console_run.specs.Console.{Lent, lent}

abbrev pub lent_of : LentWords → Lent
lent_of w = lent w.store.now w.rows.now w.list.now

-- The references are the caller's still, so what is written behind them is his.
pub record SameLent (old new : LentWords) : Type 0 where
  pub store : new.store.ghost_name ≡ old.store.ghost_name
  pub rows : new.rows.ghost_name ≡ old.rows.ghost_name
  pub list : new.list.ghost_name ≡ old.list.ghost_name
