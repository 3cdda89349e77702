-- Lists joined one after another, with one more; and those that pass, of two lists one after the other.
use Rattle.std.specs.Prelude.{◌≡◌, Bool, true, false, cond}
use Rattle.std.proofs.Math.Path.{refl, ap, ap₂}
use Rattle.std.proofs.Common.{◌∙◌, add-one}
use mathlib.Core.List.{List, [], ◌∷◌, ◌++◌, append-nil}
use Prim.Native.Nat.{ℕ, zero, suc, ◌+◌, ◌-◌, ◌≤◌, ◌<◌}
use native.Mathlib.Omega.{arith}
use Rattle.base.specs.Branch.{by_test, cond_all, lt?}
use Rattle.base.specs.Sums.{All, nil, cons}
use Rattle.base.specs.Lists.{joined, those}

-- ---- joined
module _ {A : Type 0} (f : ℕ → List A) where
  pub joined_none : joined f 0 ≡ []
  unfolding joined
  joined_none = refl

  pub joined_more : (k : ℕ) → joined f (k + 1) ≡ joined f k ++ f k
  unfolding joined
  joined_more k = ap (joined f) (add-one k)

  pub joined_last : (n : ℕ) → 1 ≤ n → joined f n ≡ joined f (n - 1) ++ f (n - 1)
  unfolding joined
  joined_last zero h = absurd (omega arith)
  joined_last (suc n) h = let e : suc n - 1 ≡ n = omega arith in rw e

  -- what more members keep, more turns keep
  pub joined_grows : (P : List A → Type 0) → ((l m : List A) → P l → P (l ++ m)) → (k n : ℕ) → k ≤ n → P (joined f k) → P (joined f n)
  unfolding joined
  joined_grows P grow k zero h p = let e : k ≡ 0 = omega arith in rw e at p
  joined_grows P grow k (suc n) h p = lt? n k
      (λ l. let e : k ≡ suc n = omega arith in rw e at p)
      (λ l. grow (joined f n) (f n) (joined_grows P grow k n l p))

  pub joined_same : (g : ℕ → List A) (n : ℕ) → ((i : ℕ) → i < n → f i ≡ g i) → joined f n ≡ joined g n
  unfolding joined
  joined_same g zero h = refl
  joined_same g (suc n) h = ap₂ (λ (l m : List A). l ++ m) (joined_same g n (λ i l. h i (omega arith))) (h n (omega arith))

-- ---- those that pass
module _ {A : Type 0} (p : A → Bool) where
  pub those_append : (l m : List A) → those p (l ++ m) ≡ those p l ++ those p m
  those_append [] m = refl
  those_append (x ∷ l) m = by_test (p x) (λ t. cond t (x ∷ those p (l ++ m)) (those p (l ++ m)) ≡ cond t (x ∷ those p l) (those p l) ++ those p m)
      (λ e. ap (λ (r : List A). x ∷ r) (those_append l m))
      (λ e. those_append l m)

  -- with one member more, which passes or does not
  pub those_more : (l : List A) {x : A} → p x ≡ true → those p (l ++ (x ∷ [])) ≡ those p l ++ (x ∷ [])
  those_more l {x} e = those_append l (x ∷ []) ∙ rw e

  pub those_less : (l : List A) {x : A} → p x ≡ false → those p (l ++ (x ∷ [])) ≡ those p l
  those_less l {x} e = those_append l (x ∷ []) ∙ rw e (append-nil (those p l))

  pub those_all : {P : A → Type 0} {l : List A} → All P l → All P (those p l)
  those_all nil = nil
  those_all {P} (cons {x} q a) = cond_all (All P) (p x) (λ e. cons q (those_all a)) (λ e. those_all a)
