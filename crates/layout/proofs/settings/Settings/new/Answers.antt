-- `Settings::new` meets its contract: the answer goes by what `within` says.
use mathlib.Core.Path.{sym, ◌∙◌}
use Rattle.layout.specs.Settings.{settings_answer}
use Rattle.layout.proofs.settings.Settings.new.Goals as goal

pub returns-then-within : goal.returns-then-within
unfolding settings_answer
returns-then-within c = simp (c.asked-s.ensures, rw c.asked-s.ensures at (sym c.within.ensures ∙ c.if-within.true))

pub returns-else-within : goal.returns-else-within
unfolding settings_answer
returns-else-within c = simp (rw c.asked-s.ensures at (sym c.within.ensures ∙ c.if-within.false))
