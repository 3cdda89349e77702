-- `sound::acceptor_is_bad` meets its contract: there is an acceptor, and few stand in it, or not.
use mathlib.Core.Path.{sym, ◌∙◌}
use Rattle.decisions.specs.SoundLaws.{bad-acceptor}
use Rattle.decisions.proofs.sound.acceptor_is_bad.Goals as goal

pub returns-then-not-few_when_full : goal.returns-then-not-few_when_full
returns-then-not-few_when_full c = sym (bad-acceptor _ _ _ c.requires (sym c.few_when_full.ensures ∙ c.if-not-few_when_full.true))

pub returns : goal.returns
returns c =
    c.is_bad.ensures
    ∙ sym (bad-acceptor _ _ _ c.requires (sym c.few_when_full.ensures ∙ c.if-not-few_when_full.false))
