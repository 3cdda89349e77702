-- One bit of a word, by its place: read, set, cleared, and what the others and the word's bound are then.
use Rattle.std.specs.Prelude.{◌≡◌, refl, ◌≢◌, Bool, true, false, cond, ℕ, zero, suc, ◌+◌, ◌*◌, ◌-◌, ◌/◌, ◌%◌, ◌^◌, ◌≤◌, ◌<◌, eqb}
use Rattle.std.proofs.Common.{sym, ap, ◌∙◌, subst, arith, pow-suc, div-one}
use Rattle.std.proofs.Math.Nat.{pow-succ', div-div-eq-div-mul}
use Rattle.std.specs.Int.Bits.{bit_and, bit_or, or_add_and}
use Rattle.std.proofs.lemmas.Nat.Bits.{and_high}
use Rattle.base.specs.Branch.{by_eqb}

-- Bit k of x, by halving.
unfoldable pub bit_at : ℕ → ℕ → ℕ
bit_at zero x = x % 2
bit_at (suc k) x = bit_at k (x / 2)

pub bit_shift : (k x : ℕ) → bit_at k x ≡ x / 2 ^ k % 2
unfolding bit_at
bit_shift zero x = rw div-one
bit_shift (suc k) x = rw (pow-succ', ← div-div-eq-div-mul) (bit_shift k (x / 2))

pub bit_two : (k x : ℕ) → bit_at k x < 2
unfolding bit_at
bit_two zero x = omega arith
bit_two (suc k) x = bit_two k (x / 2)

pub bit_none : (k : ℕ) → bit_at k 0 ≡ 0
unfolding bit_at
bit_none zero = refl
bit_none (suc k) = bit_none k

-- A bit that is 1 weighs what it says.
pub bit_weighs : (k x : ℕ) → bit_at k x ≡ 1 → 2 ^ k ≤ x
unfolding bit_at
bit_weighs zero x h = omega arith
bit_weighs (suc k) x h = omega (arith, pow-suc 2 k, bit_weighs k (x / 2) h)

-- Adding above the last bit leaves it, and adds half as much to the half.
pub half_more : (k x : ℕ) → (x + 2 ^ suc k) / 2 ≡ x / 2 + 2 ^ k
half_more k x = omega (arith, pow-suc 2 k)

pub even_more : (k x : ℕ) → (x + 2 ^ suc k) % 2 ≡ x % 2
even_more k x = omega (arith, pow-suc 2 k)

-- Adding a bit's weight turns it round.
bit_turns : (k x : ℕ) → bit_at k (x + 2 ^ k) + bit_at k x ≡ 1
unfolding bit_at
bit_turns zero x = omega arith
bit_turns (suc k) x = rw half_more (bit_turns k (x / 2))

-- A bit that was 0 is set, and no other changes.
pub bit_set : (k x : ℕ) → bit_at k x ≡ 0 → bit_at k (x + 2 ^ k) ≡ 1
bit_set k x h = omega (arith, bit_turns k x)

pub bit_set_other : (k j x : ℕ) → j ≢ k → bit_at k x ≡ 0 → bit_at j (x + 2 ^ k) ≡ bit_at j x
unfolding bit_at
bit_set_other zero zero x d h = absurd (d refl)
bit_set_other zero (suc j) x d h = ap (bit_at j) (omega arith)
bit_set_other (suc k) zero x d h = even_more k x
bit_set_other (suc k) (suc j) x d h = rw half_more (bit_set_other k j (x / 2) (λ e. d (ap suc e)) h)

-- A bit that was 1 is cleared, and no other changes: to clear is to undo a setting.
pub bit_back : (k x : ℕ) → bit_at k x ≡ 1 → x - 2 ^ k + 2 ^ k ≡ x
bit_back k x h = omega (arith, bit_weighs k x h)

pub bit_off : (k x : ℕ) → bit_at k x ≡ 1 → bit_at k (x - 2 ^ k) ≡ 0
bit_off k x h = omega (arith, rw (bit_back k x h) at (bit_turns k (x - 2 ^ k)))

pub bit_off_other : (k j x : ℕ) → j ≢ k → bit_at k x ≡ 1 → bit_at j (x - 2 ^ k) ≡ bit_at j x
bit_off_other k j x d h = sym (rw (bit_back k x h) at (bit_set_other k j (x - 2 ^ k) d (bit_off k x h)))

-- A word of d bits stays one.
pub set_below : (d k x : ℕ) → k < d → x < 2 ^ d → bit_at k x ≡ 0 → x + 2 ^ k < 2 ^ d
unfolding bit_at
set_below zero k x a h z = absurd (omega arith)
set_below (suc d) zero x a h z = omega (arith, pow-suc 2 d)
set_below (suc d) (suc k) x a h z =
    let r = set_below d k (x / 2) (omega arith) (omega (arith, pow-suc 2 d)) z in
    omega (arith, pow-suc 2 d, pow-suc 2 k)

pub off_below : (d k x : ℕ) → x < 2 ^ d → x - 2 ^ k < 2 ^ d
off_below d k x h = omega arith

-- ---- one bit made 1 or 0, whatever it was

-- A bit is 1 or 0, and the test of it follows.
bit_test : (k x : ℕ) (P : Bool → Type 0) → (bit_at k x ≡ 1 → P true) → (bit_at k x ≡ 0 → P false) → P (eqb (bit_at k x) 1)
bit_test k x P f g = by_eqb (bit_at k x) 1 P f (λ d. g (omega (arith, bit_two k x)))

unfoldable pub with_bit : ℕ → ℕ → ℕ
with_bit k x = cond (eqb (bit_at k x) 1) x (x + 2 ^ k)

unfoldable pub without_bit : ℕ → ℕ → ℕ
without_bit k x = cond (eqb (bit_at k x) 1) (x - 2 ^ k) x

with_all : (k x : ℕ) (P : ℕ → Type 0) → (bit_at k x ≡ 1 → P x) → (bit_at k x ≡ 0 → P (x + 2 ^ k)) → P (with_bit k x)
unfolding with_bit
with_all k x P f g = bit_test k x (λ t. P (cond t x (x + 2 ^ k))) f g

pub with_here : (k x : ℕ) → bit_at k (with_bit k x) ≡ 1
with_here k x = with_all k x (λ y. bit_at k y ≡ 1) (λ e. e) (bit_set k x)

pub with_other : (k j x : ℕ) → j ≢ k → bit_at j (with_bit k x) ≡ bit_at j x
with_other k j x d = with_all k x (λ y. bit_at j y ≡ bit_at j x) (λ e. refl) (bit_set_other k j x d)

pub with_below : (d k x : ℕ) → k < d → x < 2 ^ d → with_bit k x < 2 ^ d
with_below d k x a h = with_all k x (λ y. y < 2 ^ d) (λ e. h) (set_below d k x a h)

without_all : (k x : ℕ) (P : ℕ → Type 0) → (bit_at k x ≡ 1 → P (x - 2 ^ k)) → (bit_at k x ≡ 0 → P x) → P (without_bit k x)
unfolding without_bit
without_all k x P f g = bit_test k x (λ t. P (cond t (x - 2 ^ k) x)) f g

pub without_here : (k x : ℕ) → bit_at k (without_bit k x) ≡ 0
without_here k x = without_all k x (λ y. bit_at k y ≡ 0) (bit_off k x) (λ e. e)

pub without_other : (k j x : ℕ) → j ≢ k → bit_at j (without_bit k x) ≡ bit_at j x
without_other k j x d = without_all k x (λ y. bit_at j y ≡ bit_at j x) (bit_off_other k j x d) (λ e. refl)

pub without_below : (d k x : ℕ) → x < 2 ^ d → without_bit k x < 2 ^ d
without_below d k x h = without_all k x (λ y. y < 2 ^ d) (λ e. off_below d k x h) (λ e. h)

-- ---- by the word's own operations
bit_alone : (k x : ℕ) → bit_and x (2 ^ k) ≡ bit_at k x * 2 ^ k
bit_alone k x =
    let s : 1 + k ≡ suc k = omega arith in
    let p : 2 ^ (1 + k) ≡ 2 ^ suc k = ap (λ (n : ℕ). 2 ^ n) s in
    let e : 2 ^ (1 + k) - 2 ^ k ≡ 2 ^ k = omega (arith, p, pow-suc 2 k) in
    rw bit_shift (subst (λ (m : ℕ). bit_and x m ≡ x / 2 ^ k % 2 ^ 1 * 2 ^ k) e (and_high x 1 k))

bit_taken : (k x b : ℕ) → bit_at k x ≡ b → bit_and x (2 ^ k) ≡ b * 2 ^ k
bit_taken k x b e = bit_alone k x ∙ ap (λ (n : ℕ). n * 2 ^ k) e

pub or_bit : (k x : ℕ) → bit_or x (2 ^ k) ≡ with_bit k x
or_bit k x = with_all k x (λ y. bit_or x (2 ^ k) ≡ y)
    (λ e. omega (arith, or_add_and x (2 ^ k), bit_taken k x 1 e))
    (λ e. omega (arith, or_add_and x (2 ^ k), bit_taken k x 0 e))

pub less_bit : (k x : ℕ) → x - bit_and x (2 ^ k) ≡ without_bit k x
less_bit k x = without_all k x (λ y. x - bit_and x (2 ^ k) ≡ y)
    (λ e. omega (arith, bit_taken k x 1 e))
    (λ e. omega (arith, bit_taken k x 0 e))
