-- What a call that may go on finds: no refusal of its table applies, as facts about the words.
use Rattle.std.specs.Prelude.{refl, List, [], ℕ, ◌≤◌, length, Ok}
use Rattle.std.proofs.Common.{arith, ltb-false, leb-false, eqb-true}
use Rattle.std.proofs.Math.Path.{subst⁻¹}
use Rattle.std.proofs.lemmas.Bool.{eqb-false, not-false}
use Rattle.base.specs.Sums.{nil, cons}
use Rattle.layout.specs.declared.head.Head.{Head}
use Rattle.layout.specs.Sizes.{layout_len}
use Rattle.layout.specs.Head.{head_of}
use Rattle.layout.specs.HeadLaws.{HeadRead, passes}
use Rattle.layout.specs.OnWords.{fits_held}
use Rattle.calls.specs.Refusals.{Test, time_tests, set_own, clear_own, set_tests, clear_tests}
use Rattle.calls.specs.Step.{words_read}
use Rattle.queries.specs.Readable.{Readable}
use Rattle.decisions.specs.Verdict.{Verdict}
use Rattle.decisions.specs.Ready.{ReadyTime, ReadySet, ReadyClear}
use Rattle.decisions.specs.TestLaws.{numbers, NoneApplies, none_applies}
use Rattle.decisions.specs.VerdictLaws.{gone}

-- ---- no test applies
-- (The clock is below OPEN since the second is not before it.)
none_time : {ws : List ℕ} {s : ℕ} {l : List Test} → NoneApplies (time_tests ws s l) → ReadyTime ws (head_of ws) s × NoneApplies l
none_time {ws} {s} (cons a (cons b (cons c (cons d (cons e n))))) =
    let long : layout_len (head_of ws).settings ≤ length ws = ltb-false _ _ c in
    let known = leb-false _ s d in
    let later : (head_of ws).cursor.clock ≤ s = ltb-false s _ e in
    let head : HeadRead ws (head_of ws) = passes ws (ltb-false _ _ a) (omega arith) b in
    let ready : Readable ws (head_of ws) = record { is = refl; sound = head.sound; marked = head.marked; spare = head.spare; held = fits_held (record { long = long }) head.sound.within } in
    (record { ready = ready; not_open = known; not_early = later }, n)

none_set : {ws : List ℕ} {s tag : ℕ} → ReadyTime ws (head_of ws) s → NoneApplies (set_own (head_of ws) (words_read ws) tag) → ReadySet ws (head_of ws) s tag
none_set t (cons a (cons b (cons c (cons d nil)))) =
    record { time = t; has_tag = leb-false _ _ a; free = eqb-true _ _ (not-false _ b); sound = c; room = d }

none_clear : {more : ℕ} {ws : List ℕ} {s tag : ℕ} → ReadyTime ws (head_of ws) s → NoneApplies (clear_own more (head_of ws) (words_read ws) tag)
    → ReadyClear more ws (head_of ws) s tag
none_clear t (cons a (cons b (cons c (cons d nil)))) =
    record { time = t; has_tag = leb-false _ _ a; standing = eqb-false _ _ b; sound = c; room = d }

-- ---- where a call may go on from the head that was found: a clock move,
module _ {ws : List ℕ} {s : ℕ} {h : Head} where
  pub go_time : Verdict (time_tests ws s []) (head_of ws) (Ok h) → ReadyTime ws h s
  go_time v = let g = gone v in
      subst⁻¹ (λ (x : Head). ReadyTime ws x s) g.1 (none_time {l = []} (none_applies (numbers (time_tests ws s []) refl) g.0)).0

  -- a set,
  pub go_set : (tag : ℕ) → Verdict (set_tests ws (words_read ws) s tag) (head_of ws) (Ok h) → ReadySet ws h s tag
  go_set tag v =
      let l = set_tests ws (words_read ws) s tag in
      let g = gone v in
      let n = none_time {l = set_own (head_of ws) (words_read ws) tag} (none_applies (numbers l refl) g.0) in
      subst⁻¹ (λ (x : Head). ReadySet ws x s tag) g.1 (none_set n.0 n.1)

  -- a clear (more = 0) or a new reading (more = 1).
  pub go_clear : (more tag : ℕ) → Verdict (clear_tests more ws (words_read ws) s tag) (head_of ws) (Ok h) → ReadyClear more ws h s tag
  go_clear more tag v =
      let l = clear_tests more ws (words_read ws) s tag in
      let g = gone v in
      let n = none_time {l = clear_own more (head_of ws) (words_read ws) tag} (none_applies (numbers l refl) g.0) in
      subst⁻¹ (λ (x : Head). ReadyClear more ws x s tag) g.1 (none_clear n.0 n.1)
