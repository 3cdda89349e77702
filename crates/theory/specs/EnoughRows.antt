-- Where at least q slots of a block stand, a look-back takes at least q rows of it.
use Rattle.std.specs.Prelude.{ℕ, suc, ◌+◌, ◌≤◌, ◌<◌, length}
use Rattle.std.proofs.Common.{arith, add-one}
use Rattle.base.specs.Sums.{total, totals, total_length, upto, upto_suc}
use Rattle.theory.specs.Row.{BlockView}
use Rattle.theory.specs.Records.{Records, Stands, Kept}
use Rattle.theory.specs.Moving.{AtLeast, enough, another}
use Rattle.theory.specs.MemberLaws.{upto_grows, total_joined}
use Rattle.theory.specs.RecordRows.{standing_row, standing_rows, standing-row}

-- If all that have p are below b and weigh 1 or more, the weights from lo on, below b, are at least as many.
at_least_weighs : {p : ℕ → Type 0} {lo q : ℕ} (w : ℕ → ℕ) (b : ℕ) → ((k : ℕ) → p k → k < b) → ((k : ℕ) → p k → 1 ≤ w k)
    → AtLeast p lo q → lo ≤ b → upto w lo + q ≤ upto w b
at_least_weighs {lo = lo} w b below heavy enough h = omega (arith, upto_grows w lo b h)
at_least_weighs {lo = lo} w b below heavy (another {k = k} {m} a c u) h =
    let i = below k c in
    let r : upto w (suc k) + m ≤ upto w b = rw add-one at (at_least_weighs w b below heavy u (omega arith)) in
    omega (arith, heavy k c, upto_grows w lo k a, upto_suc w k)

pub rows_enough : {R : Records} {v : BlockView} {b tags N fill clock t n q : ℕ} → Kept R v b tags N fill clock → AtLeast (λ k. Stands t (R n k)) 0 q
    → q ≤ length (standing_rows b t (R n))
unfolding standing_rows
rows_enough {R} {b = b} {t = t} {n} kept u =
    rw (← total_length, total_joined (λ k. standing_row t (R n k)) (λ r. 1) b)
    (omega (
      arith,
      at_least_weighs (λ k. total (λ r. 1) (standing_row t (R n k))) b
          (λ k w. (kept.used n k (omega (arith, w.lasts))).slot)
          (λ k w. rw (standing-row {t = t} {r = R n k} w) (simp totals (omega arith)))
          u (omega arith),
    ))
