-- Case splits on a test and on two numbers, and branches: what holds of both arms holds of the `cond`.
use Rattle.std.specs.Prelude.{◌≡◌, refl, ◌≢◌, Bool, true, false, cond, ◌&&◌, ◌||◌, ℕ, ◌≤◌, ◌<◌, eqb, ltb}
use Rattle.std.proofs.Common.{arith, eqb-true, eq-eqb, ltb-true, ltb-false}
use Rattle.std.proofs.lemmas.Bool.{eqb-false}

-- A test is true or false, and each case knows which.
pub by_test : (b : Bool) (P : Bool → Type 0) → (b ≡ true → P true) → (b ≡ false → P false) → P b
by_test true P f g = f refl
by_test false P f g = g refl

-- What P says of both arms it says of the branch.
pub cond_all : {A : Type 0} (P : A → Type 0) (b : Bool) {x y : A} → (b ≡ true → P x) → (b ≡ false → P y) → P (cond b x y)
cond_all P b {x} {y} f g = by_test b (λ t. P (cond t x y)) f g

-- Two branches by equal tests: what R says of the arms, pair by pair, it says of the branches.
pub cond_rel : {A B : Type 0} (R : A → B → Type 0) {b c : Bool} {x x' : A} {y y' : B}
    → b ≡ c → (b ≡ true → R x y) → (b ≡ false → R x' y') → R (cond b x x') (cond c y y')
cond_rel R {b} {c} {x} {x'} {y} {y'} e f g = rw (← e) (by_test b (λ t. R (cond t x x') (cond t y y')) f g)

-- Two numbers are equal or not, and the test of it follows.
pub by_eqb : (a b : ℕ) (P : Bool → Type 0) → (a ≡ b → P true) → (a ≢ b → P false) → P (eqb a b)
by_eqb a b P f g = by_test (eqb a b) P (λ e. f (eqb-true a b e)) (λ e. g (eqb-false a b e))

pub is? : {P : Type 0} (a b : ℕ) → (a ≡ b → P) → (a ≢ b → P) → P
is? {P} a b f g = by_eqb a b (λ t. P) f g

-- One number is below another or not, and the test of it follows.
pub by_ltb : (a b : ℕ) (P : Bool → Type 0) → (a < b → P true) → (b ≤ a → P false) → P (ltb a b)
by_ltb a b P f g = by_test (ltb a b) P (λ e. f (ltb-true a b e)) (λ e. g (ltb-false a b e))

pub lt? : {P : Type 0} (a b : ℕ) → (a < b → P) → (b ≤ a → P) → P
lt? {P} a b f g = by_ltb a b (λ t. P) f g

-- Three cases: below, equal, above.
pub cmp? : {P : Type 0} (a b : ℕ) → (a < b → P) → (a ≡ b → P) → (b < a → P) → P
cmp? a b f e g = lt? a b f (λ h. is? a b e (λ d. g (omega arith)))

-- Both tests of a true `&&` are true, and so back; both tests of a false `||` are false.
pub and-true : (a b : Bool) → (a && b) ≡ true → (a ≡ true) × (b ≡ true)
and-true true b e = (refl, e)
and-true false b e = (e, cc)

pub and_is : {a b : Bool} → a ≡ true → b ≡ true → (a && b) ≡ true
and_is e f = rw (e, f)

pub or-false : (a b : Bool) → (a || b) ≡ false → (a ≡ false) × (b ≡ false)
or-false true b e = (e, cc)
or-false false b e = (refl, e)

-- A number is itself, which the test does not show at a variable.
pub eqb_same : (n : ℕ) → eqb n n ≡ true
eqb_same n = eq-eqb n n refl
