-- The library's sum keeps to the greatest word at each step: it is the sum of all counts, cut there.
use Rattle.std.proofs.Common.{◌≡◌, ◌∙◌, ap, ◌-◌, ◌^◌, ◌+◌, ◌≤◌, min, sum_by, arith, ℕ, List, [], ◌∷◌, map, Bor}
use Rattle.std.specs.List.{fold}
use Rattle.std.proofs.lemmas.List.Sums.{sum_by-cons}
use Rattle.std.specs.declared.num.Saturating.{Saturating}
use Rattle.std.proofs.lemmas.Iterator.{items_from_drains, YieldsList-from_slice}
use Rattle.model.proofs.answers.Answers.all.Goals as goal

cut : (xs : List (Bor (Saturating ℕ))) (a : Saturating ℕ) → a.0 ≤ 2 ^ 32 - 1
    → (fold (λ a x. record { 0 = min (a.0 + x.now.0) (2 ^ 32 - 1) }) a xs).0
    ≡ min (a.0 + sum_by (λ count. count.0) (map (λ x. x.now) xs)) (2 ^ 32 - 1)
cut [] a most = omega (arith, most)
cut (x ∷ xs) a most =
    cut xs (record { 0 = min (a.0 + x.now.0) (2 ^ 32 - 1) }) (omega arith)
    ∙ omega (arith, sum_by-cons (λ (count : Saturating ℕ). count.0) x.now (map (λ x. x.now) xs))

pub returns : goal.returns
returns c =
    let drained = c.sum.ensures.ran.1 tt in
    let all = items_from_drains _ (drained.1.0, drained.1.1, λ _. (drained.0, drained.1.2)) (YieldsList-from_slice _ c.iter.ensures.rest) in
    let folded = c.sum.ensures.ran.2 in
    ap (λ (r : Saturating ℕ). r.0) folded.2
    ∙ cut c.sum.ensures.ran.0 (record { 0 = folded.0 }) (omega (arith, folded.1))
    ∙ omega (arith, folded.1, ap (sum_by (λ (count : Saturating ℕ). count.0)) all)
