-- `own::test_set` meets its contract: refusals 8 and 9, then 12 and 13 if a block opens.
use mathlib.Core.Path.{sym, ap, ◌∙◌}
use mathlib.Core.Bool.{not}
use Prim.Native.Nat.{ℕ}
use Rattle.std.specs.Prelude.{drop}
use Rattle.calls.specs.Refusals.{set_own}
use Rattle.decisions.specs.Ready.{words_in}
use Rattle.decisions.specs.SoundLaws.{set_opens, set_rests, out_opens, out_rests}
use Rattle.decisions.specs.TestLaws.{RefusalOf, hit, miss, none, zero_is}
use Rattle.decisions.proofs.own.test_set.Goals.{Else-read-ne0}
use Rattle.decisions.proofs.own.test_set.Goals as goal

-- Once the tag has a place and does not stand, the tests behind the first two answer.
behind : {r : ℕ} (c : Else-read-ne0) → let o = c.args.found.now in let own = set_own o.head (words_in o) c.args.tag in
    RefusalOf (drop 2 own) r → RefusalOf own r
behind c h = miss (sym c.beyond_tags.ensures ∙ c.if-beyond_tags.false) (miss (ap not (zero_is (sym c.read.ensures) c.if-read-ne0.false)) h)

pub returns-then-not-opens : goal.returns-then-not-opens
returns-then-not-opens c =
    let rests = sym c.opens.ensures ∙ c.if-not-opens.true in
    behind (goal.at.returns-then-not-opens c).Else-read-ne0 (miss (set_rests _ _ rests) (miss (out_rests _ 1 rests) none))

pub returns-then-unsound_for_set : goal.returns-then-unsound_for_set
returns-then-unsound_for_set c =
    let opening = sym c.opens.ensures ∙ c.if-not-opens.false in
    behind (goal.at.returns-then-unsound_for_set c).Else-read-ne0
    (hit (set_opens _ _ opening (sym c.unsound_for_set.ensures ∙ c.if-unsound_for_set.true)))

pub returns : goal.returns
returns c =
    let opening = sym c.opens.ensures ∙ c.if-not-opens.false in
    behind (goal.at.returns c).Else-read-ne0
    (miss (set_opens _ _ opening (sym c.unsound_for_set.ensures ∙ c.if-unsound_for_set.false))
    (out_opens _ 1 opening c.test_opening.ensures))
