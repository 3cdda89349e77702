-- `decide_clearing` meets its contract: the store and the second first, then its own tests.
use mathlib.Core.List.{List}
use Prim.Native.Nat.{ℕ}
use Rattle.layout.specs.declared.head.Head.{Head}
use Rattle.layout.specs.RefusalLaws.{err_kept}
use Rattle.calls.specs.Refusals.{Test, clear_own}
use Rattle.queries.specs.Readable.{words_of}
use Rattle.decisions.specs.Verdict.{more}
use Rattle.decisions.specs.VerdictLaws.{time_refused, own_refused, own_passed}
use Rattle.decisions.proofs.decide_clearing.Goals as goal

-- the own tests of a clear or a new reading, of any head and words
abbrev own : ℕ → ℕ → Head → List ℕ → List Test
own n tag h ws = clear_own n h (words_of h ws) tag

pub returns-in_err-found : goal.returns-in_err-found
returns-in_err-found c = rw (err_kept c.from_residual.ensures.1) (time_refused _ c.in_err-found.ensures)

pub returns-in_err-test_clear : goal.returns-in_err-test_clear
returns-in_err-test_clear c =
    rw (err_kept c.from_residual-in_err-test_clear.ensures.1)
    (own_refused (own (more c.args.renews) c.args.tag) c.in_ok-found.ensures c.in_err-test_clear.ensures)

pub returns : goal.returns
returns c = own_passed (own (more c.args.renews) c.args.tag) c.in_ok-found.ensures c.in_ok-test_clear.ensures
