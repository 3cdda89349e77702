-- How long a decimal is, and that it is what the library `io` spells.
use Rattle.std.specs.Prelude.{◌≡◌, List, [], ◌∷◌, ◌++◌, ℕ, zero, suc, ◌+◌, ◌-◌, ◌/◌, ◌%◌, ◌^◌, ◌≤◌, ◌<◌, length}
use Rattle.std.proofs.Common.{sym, ◌∙◌, append_assoc, append-nil, arith, pow-suc, lit<, lt-ltb, le-ltb}
use Rattle.std.proofs.Math.Nat.{one-le-pow, pow-le-pow_right}
use Rattle.base.specs.Branch.{lt?}
use Rattle.io.specs.Digits.{hex_digit_ascii, last_digits, IsDigitCount}
use Rattle.console_text.specs.Decimal.{digit_byte, digits_before, decimal}

-- A number up to 9 is a digit, and a larger one ends with one.
pub digits_few : (k n : ℕ) (after : List ℕ) → n < 10 → digits_before (suc k) n after ≡ digit_byte n ∷ after
unfolding digits_before
digits_few k n after h = rw (lt-ltb n 10 h)

pub digits_many : (k n : ℕ) (after : List ℕ) → 10 ≤ n
    → digits_before (suc k) n after ≡ digits_before k (n / 10) (digit_byte (n % 10) ∷ after)
unfolding digits_before
digits_many k n after h = rw (le-ltb n 10 h)

-- ---- how many digits

digits_length : (k m n : ℕ) (after : List ℕ) → n < 10 ^ suc m → length (digits_before k n after) ≤ suc m + length after
unfolding digits_before
digits_length zero m n after h = omega arith
digits_length (suc k) zero n after h = rw (digits_few k n after (omega (arith, pow-suc 10 0))) (omega arith)
digits_length (suc k) (suc m) n after h = lt? n 10
    (λ a. rw (digits_few k n after a) (omega arith))
    (λ a. rw (digits_many k n after a)
    (omega (arith, digits_length k m (n / 10) (digit_byte (n % 10) ∷ after) (omega (arith, pow-suc 10 (suc m))))))

-- A word has at most 10 digits, and no decimal has more than 20.
pub decimal_word : (n : ℕ) → n < 2 ^ 32 → length (decimal n) ≤ 10
unfolding decimal
decimal_word n h = digits_length 20 9 n [] (omega arith)

pub decimal_most : (n : ℕ) → n < 2 ^ 64 → length (decimal n) ≤ 20
unfolding decimal
decimal_most n h = digits_length 20 19 n [] (omega arith)

-- ---- as the library spells them

-- As many digits as a number has are its decimal, before the bytes that follow.
digits_same : (k m n : ℕ) (after : List ℕ) → k ≤ m → n < 10 ^ suc k → (0 < k → 10 ^ k ≤ n)
    → last_digits 10 (suc k) n ++ after ≡ digits_before (suc m) n after
digits_same zero m n after h s l =
    let a : n < 10 = omega (arith, pow-suc 10 0) in
    let e : n % 10 ≡ n = omega arith in
    rw (e, lt-ltb n 10 a) (sym (digits_few m n after a))
digits_same (suc k) zero n after h s l = absurd (omega arith)
digits_same (suc k) (suc m) n after h s l =
    let p : 10 ^ suc k ≤ n = l (omega arith) in
    let a : 10 ≤ n = omega (arith, pow-suc 10 k, one-le-pow k 10 (lit< tt)) in
    let d : n % 10 < 10 = omega arith in
    rw (append_assoc (last_digits 10 (suc k) (n / 10)) (hex_digit_ascii (n % 10) ∷ []) after, lt-ltb (n % 10) 10 d, digits_many (suc m) n after a)
    (digits_same k m (n / 10) (digit_byte (n % 10) ∷ after) (omega arith) (omega (arith, pow-suc 10 (suc k))) (λ z. omega (arith, pow-suc 10 k)))

-- No number of 64 bits has more than 20.
pub digits_most : {n k : ℕ} → n < 2 ^ 64 → IsDigitCount 10 1 n k → k ≤ 20
digits_most {n} {k} h f = lt? 20 k
    (λ a. let p : 10 ^ (k - 1) ≤ n = f.2 (omega arith) in
    let m : 10 ^ 20 ≤ 10 ^ (k - 1) = pow-le-pow_right {n = 10} (lit< tt) {i = 20} {j = k - 1} (omega arith) in absurd (omega arith)) (λ a. a)

spelled : (k n : ℕ) → IsDigitCount 10 1 n k → k ≤ 20 → last_digits 10 k n ≡ decimal n
unfolding decimal
spelled zero n f h = absurd (omega (arith, f.0))
spelled (suc k) n f h = sym (append-nil (last_digits 10 (suc k) n)) ∙ digits_same k 19 n [] (omega arith) f.1 (λ p. rw one at (f.2 (omega arith)))
  where
    one : suc k - 1 ≡ k
    one = omega arith

-- What the library spells is the decimal.
pub digits_are : {n k : ℕ} {digits : List ℕ} → n < 2 ^ 64 → IsDigitCount 10 1 n k → digits ≡ last_digits 10 k n → digits ≡ decimal n
digits_are {n} {k} h f e = e ∙ spelled k n f (digits_most h f)
