-- The pigeonhole: keys below d, none of them twice, are at most d. Counted by the sums of `Sums`.
use Rattle.std.specs.Prelude.{◌≡◌, List, ℕ, zero, suc, ◌+◌, ◌≤◌, ltb, leb, eqb, length}
use Rattle.std.proofs.Common.{sym, ◌∙◌, arith, lt-ltb, le-ltb, le-leb, eq-eqb, ne_eqb}
use Rattle.std.proofs.lemmas.Bool.{lt-leb}
use Rattle.base.specs.Branch.{lt?, cmp?}
use Rattle.base.specs.Sums.{all_of, is, total, total_same, total_plus, total_none, total_length}

none_below : (n : ℕ) → is (ltb n 0) ≡ 0
none_below n = rw (le-ltb n 0 (omega arith))

-- A number below k + 1 is below k or is k; one that is not below d is at least d.
below_next : (n k : ℕ) → is (ltb n (suc k)) ≡ is (ltb n k) + is (eqb k n)
below_next n k = cmp? n k
    (λ h. rw (lt-ltb n (suc k) (omega arith), lt-ltb n k h, ne_eqb k n (λ e. omega arith)))
    (λ h. rw (lt-ltb n (suc k) (omega arith), le-ltb n k (omega arith), eq-eqb k n (sym h)))
    (λ h. rw (le-ltb n (suc k) (omega arith), le-ltb n k (omega arith), ne_eqb k n (λ e. omega arith)))

below_or_not : (n d : ℕ) → is (ltb n d) + is (leb d n) ≡ 1
below_or_not n d = lt? n d (λ h. rw (lt-ltb n d h, lt-leb d n h)) (λ h. rw (le-ltb n d h, le-leb d n h))

module _ {A : Type 0} (key : A → ℕ) where
  -- How many have the key m.
  abbrev pub keyed : ℕ → List A → ℕ
  keyed m = total (λ x. is (eqb m (key x)))

  -- How many keys are below k.
  abbrev below : ℕ → List A → ℕ
  below k = total (λ x. is (ltb (key x) k))

  below_suc : (k : ℕ) (l : List A) → below (suc k) l ≡ below k l + keyed k l
  below_suc k l = total_same _ _ (λ x. below_next (key x) k) l ∙ total_plus _ _ l

  below_most : (k : ℕ) (l : List A) → ((m : ℕ) → keyed m l ≤ 1) → below k l ≤ k
  below_most zero l h = omega (arith, total_none _ (all_of (λ x. none_below (key x)) l))
  below_most (suc k) l h = omega (arith, below_suc k l, below_most k l h, h k)

  below_rest : (d : ℕ) (l : List A) → below d l + total (λ x. is (leb d (key x))) l ≡ length l
  below_rest d l = sym (total_plus _ _ l) ∙ total_same _ _ (λ x. below_or_not (key x) d) l ∙ total_length l

  -- None is d or above and no key stands twice: they are at most d.
  pub pigeonhole : (d : ℕ) (l : List A)
      → total (λ x. is (leb d (key x))) l ≡ 0 → ((m : ℕ) → keyed m l ≤ 1) → length l ≤ d
  pigeonhole d l a h = omega (arith, below_rest d l, below_most d l h)
