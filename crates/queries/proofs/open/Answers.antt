-- `open` meets its contract: refusals 2 and 3 are the head's, 4 is its own.
use mathlib.Core.Path.{refl}
use Rattle.layout.specs.RefusalLaws.{err_kept}
use Rattle.queries.specs.OpenLaws.{head_shut, words_short, words_readable, words_enough}
use Rattle.queries.proofs.open.Goals as goal

pub returns-in_err-head : goal.returns-in_err-head
returns-in_err-head c = rw (err_kept c.from_residual.ensures.1) (head_shut c.in_err-head.ensures.refusal)

pub returns-then-store-words : goal.returns-then-store-words
returns-then-store-words c = words_short c.in_ok-head.ensures.refusal c.in_ok-head.ensures.head c.words.ensures c.if-store-words.true

pub invariant_of-result : goal.invariant_of-result
invariant_of-result c =
    record { readable = words_readable c.in_ok-head.ensures.refusal c.in_ok-head.ensures.head c.words.ensures c.if-store-words.false }

pub returns : goal.returns
returns c = words_enough c.in_ok-head.ensures.refusal c.in_ok-head.ensures.head c.words.ensures refl c.if-store-words.false
