-- `head::read_head` meets its contract: too short, bad, or a head that is read.
use Prim.Native.Nat.{◌≤◌}
use mathlib.Core.Path.{sym, ◌∙◌}
use native.Mathlib.Omega.{arith}
use borrow.Author.Tests.{lt-ltb, le-ltb}
use Rattle.layout.specs.Sizes.{OPEN}
use Rattle.layout.specs.Head.{head_refusal}
use Rattle.layout.specs.HeadLaws.{passes}
use Rattle.layout.proofs.head.read_head.Goals as goal

pub returns-then-store-lt-HEAD_LEN-clause-refusal : goal.returns-then-store-lt-HEAD_LEN-clause-refusal
unfolding head_refusal
returns-then-store-lt-HEAD_LEN-clause-refusal c = simp (lt-ltb _ _ c.if-store-lt-HEAD_LEN.true)

pub returns-then-bad_head-clause-refusal : goal.returns-then-bad_head-clause-refusal
unfolding head_refusal
returns-then-bad_head-clause-refusal c = simp (le-ltb _ _ c.if-store-lt-HEAD_LEN.false, sym c.bad_head.ensures ∙ c.if-bad_head.true)

pub returns-clause-refusal : goal.returns-clause-refusal
unfolding head_refusal
returns-clause-refusal c = simp (le-ltb _ _ c.if-store-lt-HEAD_LEN.false, sym c.bad_head.ensures ∙ c.if-bad_head.false)

pub returns-clause-head : goal.returns-clause-head
returns-clause-head c =
    let k : c.head.result.cursor.clock ≤ OPEN = omega arith in
    rw c.head.ensures (passes _ c.if-store-lt-HEAD_LEN.false (rw c.head.ensures at k) (sym c.bad_head.ensures ∙ c.if-bad_head.false))
