-- Sums of a weight over a list, over the numbers below k and from 1 to n; "every member has P"; how often a
-- number stands in a list.
use Rattle.std.specs.Prelude.{◌≡◌, Bool, true, false, ℕ, zero, suc, ◌+◌, ◌*◌, ◌≤◌, ◌<◌, eqb, length}
use Rattle.std.proofs.Math.Path.{refl}
use Rattle.std.proofs.Common.{ap, zero-mul, add-mul}
use mathlib.Core.List.{List, [], ◌∷◌, ◌++◌}
use native.Mathlib.Omega.{arith}
use Rattle.base.specs.Branch.{lt?}

-- Every member has P.
pub data All {A : Type 0} (P : A → Type 0) : List A → Type 0 where
  nil : All P []
  cons : {x : A} {l : List A} → P x → All P l → All P (x ∷ l)

module _ {A : Type 0} {P : A → Type 0} where
  pub all_left : (l m : List A) → All P (l ++ m) → All P l
  all_left [] m a = nil
  all_left (x ∷ l) m (cons p a) = cons p (all_left l m a)

  pub all_right : (l : List A) {m : List A} → All P (l ++ m) → All P m
  all_right [] a = a
  all_right (x ∷ l) (cons p a) = all_right l a

  pub all_append : {l m : List A} → All P l → All P m → All P (l ++ m)
  all_append nil b = b
  all_append (cons p a) b = cons p (all_append a b)

  pub all_of : ((x : A) → P x) → (l : List A) → All P l
  all_of f [] = nil
  all_of f (x ∷ l) = cons (f x) (all_of f l)

  pub all_map : {Q : A → Type 0} → ((x : A) → P x → Q x) → {l : List A} → All P l → All Q l
  all_map f nil = nil
  all_map f (cons {x} p a) = cons (f x p) (all_map f a)

-- ---- over a list

module _ {A : Type 0} (w : A → ℕ) where
  unfoldable pub total : List A → ℕ
  total [] = 0
  total (x ∷ l) = w x + total l

  pub total_nil : total [] ≡ 0
  unfolding total
  total_nil = refl

  pub total_cons : (x : A) (l : List A) → total (x ∷ l) ≡ w x + total l
  unfolding total
  total_cons x l = refl

  pub total_append : (l m : List A) → total (l ++ m) ≡ total l + total m
  unfolding total
  total_append [] m = omega arith
  total_append (x ∷ l) m = omega (arith, total_append l m)

-- `simp totals` takes the sum of a list apart.
pub ruleset totals = (total_append, total_cons, total_nil)

module _ {A : Type 0} (v w : A → ℕ) where
  -- Equal weights have equal sums.
  pub total_same : ((x : A) → v x ≡ w x) → (l : List A) → total v l ≡ total w l
  total_same h [] = simp totals
  total_same h (x ∷ l) = simp totals (omega (arith, h x, total_same h l))

  -- The sum of two weights, member by member.
  pub total_plus : (l : List A) → total (λ x. v x + w x) l ≡ total v l + total w l
  total_plus [] = simp totals
  total_plus (x ∷ l) = simp totals (omega (arith, total_plus l))

-- A sum is 0 where every member weighs 0, and only there.
pub total_none : {A : Type 0} (w : A → ℕ) {l : List A} → All (λ x. w x ≡ 0) l → total w l ≡ 0
total_none w nil = simp totals
total_none w (cons p a) = simp totals (omega (arith, total_none w a))

pub none_total : {A : Type 0} (w : A → ℕ) (l : List A) → total w l ≡ 0 → All (λ x. w x ≡ 0) l
none_total w [] h = nil
none_total w (x ∷ l) h =
    let e : w x + total w l ≡ 0 = simp totals at h in
    let z : w x ≡ 0 = omega arith in
    cons z (none_total w l (omega arith))

pub total_length : {A : Type 0} (l : List A) → total (λ x. 1) l ≡ length l
total_length [] = simp totals
total_length (x ∷ l) = simp totals (omega (arith, total_length l))

-- A test as a weight: 1 where it holds.
abbrev pub is : Bool → ℕ
is true = 1
is false = 0

pub is_small : (b : Bool) → is b ≤ 1
is_small true = omega arith
is_small false = omega arith

-- How often m stands in a list of numbers.
abbrev pub occ : ℕ → List ℕ → ℕ
occ m = total (λ n. is (eqb m n))

-- ---- over the numbers below k

unfoldable pub upto : (ℕ → ℕ) → ℕ → ℕ
upto w zero = 0
upto w (suc k) = upto w k + w k

pub upto_suc : (w : ℕ → ℕ) (k : ℕ) → upto w (suc k) ≡ upto w k + w k
unfolding upto
upto_suc w k = refl

-- A weight that is 0 from a on, below b, adds nothing there.
pub upto_none : (w : ℕ → ℕ) (a b : ℕ) → a ≤ b → ((m : ℕ) → a ≤ m → m < b → w m ≡ 0) → upto w a ≡ upto w b
upto_none w a zero h z = ap (upto w) (omega arith)
upto_none w a (suc b) h z = lt? b a
    (λ p. ap (upto w) (omega arith))
    (λ p. simp upto_suc (omega (arith, upto_none w a b p (λ m i j. z m i (omega arith)), z b p (omega arith))))

-- ---- from 1 to n

unfoldable pub sum_to : ℕ → (ℕ → ℕ) → ℕ
sum_to zero w = 0
sum_to (suc n) w = sum_to n w + w (suc n)

pub sum_to_upto : (w : ℕ → ℕ) (n : ℕ) → sum_to n w + upto w 1 ≡ upto w (suc n)
unfolding sum_to
sum_to_upto w zero = omega arith
sum_to_upto w (suc n) = omega (arith, sum_to_upto w n, upto_suc w (suc n))

-- Weights that are equal from 1 to n have equal sums.
pub sum_to_same : (v w : ℕ → ℕ) (n : ℕ) → ((m : ℕ) → 0 < m → m ≤ n → v m ≡ w m) → sum_to n v ≡ sum_to n w
unfolding sum_to
sum_to_same v w zero h = refl
sum_to_same v w (suc n) h =
    omega (arith, sum_to_same v w n (λ m p q. h m p (omega arith)), h (suc n) (omega arith) (omega arith))

-- A weight that is 0 beyond k adds nothing there.
pub sum_to_none : (w : ℕ → ℕ) (k n : ℕ) → k ≤ n → ((m : ℕ) → k < m → m ≤ n → w m ≡ 0) → sum_to k w ≡ sum_to n w
sum_to_none w k n h z =
    let e = upto_none w (suc k) (suc n) (omega arith) (λ m i j. z m i (omega arith)) in
    omega (arith, sum_to_upto w k, sum_to_upto w n)

-- Where each weight w is at least q times v, so is the sum.
pub sum_to_times : (q : ℕ) (v w : ℕ → ℕ) (n : ℕ) → ((m : ℕ) → 0 < m → m ≤ n → v m * q ≤ w m) → sum_to n v * q ≤ sum_to n w
unfolding sum_to
sum_to_times q v w zero h = simp zero-mul (omega arith)
sum_to_times q v w (suc n) h =
    let r = sum_to_times q v w n (λ m i j. h m i (omega arith)) in
    simp add-mul (omega (arith, h (suc n) (omega arith) (omega arith)))
