-- READING IS THE INVERSE OF PRINTING: a field stands for a number up to `most` exactly if it is that number's decimal.
use Rattle.std.specs.Prelude.{◌≡◌, refl, true, false, ◌&&◌, List, [], ◌∷◌, ◌++◌, ℕ, zero, suc, ◌+◌, ◌*◌, ◌-◌, ◌/◌, ◌%◌, ◌^◌, ◌≤◌, ◌<◌, eqb, leb, length, get_or, Some, None}
use Rattle.std.proofs.Common.{sym, ◌∙◌, append-nil, arith, pow-suc, lt-ltb, le-ltb, ne_eqb, le-leb}
use Rattle.base.specs.Branch.{by_test, is?, lt?}
use Rattle.console_text.specs.Decimal.{digit_byte, digits_before, decimal, read_on, spare_zero, number_of}
use Rattle.console_text.specs.DigitsLaws.{digits_few, digits_many}

-- ---- printed, then read

-- A digit that keeps the number within `most` is read.
read_digit : (most v d w : ℕ) (rest : List ℕ) → d < 10 → w ≡ 10 * v + d → w ≤ most
    → read_on most v (digit_byte d ∷ rest) ≡ read_on most w rest
unfolding read_on
read_digit most v d w rest h e o =
    let f : 10 * v + (48 + d - 48) ≡ w = omega arith in
    rw (le-ltb (48 + d) 48 (omega arith), le-ltb 57 (48 + d) (omega arith), f, le-ltb most w o)

read_few : (most k n : ℕ) (after : List ℕ) → n < 10 → n ≤ most
    → read_on most 0 (digits_before (suc k) n after) ≡ read_on most n after
read_few most k n after a o = rw (digits_few k n after a) (read_digit most 0 n n after a (omega arith) o)

read_digits : (most k n : ℕ) (after : List ℕ) → n < 10 ^ suc k → n ≤ most
    → read_on most 0 (digits_before (suc k) n after) ≡ read_on most n after
read_digits most zero n after h o = read_few most zero n after (omega (arith, pow-suc 10 0)) o
read_digits most (suc k) n after h o = lt? n 10 (λ a. read_few most (suc k) n after a o)
    (λ a. rw (digits_many (suc k) n after a)
    (read_digits most k (n / 10) (digit_byte (n % 10) ∷ after) (omega (arith, pow-suc 10 (suc k))) (omega arith)
    ∙ read_digit most (n / 10) (n % 10) n after (omega arith) (omega arith) o))

-- A decimal has a digit, and its first is no zero unless it is the only one.
digits_some : (k n : ℕ) (after : List ℕ) → length after ≤ length (digits_before k n after)
unfolding digits_before
digits_some zero n after = omega arith
digits_some (suc k) n after = lt? n 10 (λ a. rw (digits_few k n after a) (omega arith))
    (λ a. rw (digits_many k n after a) (omega (arith, digits_some k (n / 10) (digit_byte (n % 10) ∷ after))))

first_few : (k n : ℕ) (after : List ℕ) → 0 < n → n < 10 → get_or (digits_before (suc k) n after) 0 0 ≡ 48 → ⊥
first_few k n after p a e = omega (arith, rw (digits_few k n after a) at e)

first_digit : (k n : ℕ) (after : List ℕ) → 0 < n → n < 10 ^ suc k → get_or (digits_before (suc k) n after) 0 0 ≡ 48 → ⊥
first_digit zero n after p h e = first_few zero n after p (omega (arith, pow-suc 10 0)) e
first_digit (suc k) n after p h e = lt? n 10 (λ a. first_few (suc k) n after p a e)
    (λ a. first_digit k (n / 10) (digit_byte (n % 10) ∷ after) (omega arith) (omega (arith, pow-suc 10 (suc k)))
    (rw (digits_many (suc k) n after a) at e))

-- No spare zero without a zero in front.
spare_not : (field : List ℕ) → (get_or field 0 0 ≡ 48 → ⊥) → spare_zero field ≡ false
spare_not field h = by_test (leb 2 (length field)) (λ t. (t && eqb (get_or field 0 0) 48) ≡ false) (λ e. ne_eqb (get_or field 0 0) 48 h) (λ e. refl)

spare_one : (x : ℕ) → spare_zero (x ∷ []) ≡ false
spare_one x = refl

decimal_spare : (n : ℕ) → n < 10 ^ 20 → spare_zero (decimal n) ≡ false
unfolding decimal
decimal_spare n h = lt? n 10 (λ a. rw (digits_few 19 n [] a) (spare_one (digit_byte n)))
    (λ a. spare_not (digits_before 20 n []) (first_digit 19 n [] (omega arith) h))

decimal_some : (n : ℕ) → 1 ≤ length (decimal n)
unfolding decimal
decimal_some n = lt? n 10 (λ a. rw (digits_few 19 n [] a) (omega arith))
    (λ a. rw (digits_many 19 n [] a) (digits_some 19 (n / 10) (digit_byte (n % 10) ∷ [])))

read_whole : (most n : ℕ) → n < 10 ^ 20 → n ≤ most → read_on most 0 (decimal n) ≡ Some n
unfolding decimal read_on
read_whole most n h o = read_digits most 19 n [] h o

-- THE DECIMAL OF A NUMBER IS READ AS THAT NUMBER.
pub read_decimal : (most n : ℕ) → most < 2 ^ 64 → n ≤ most → number_of most (decimal n) ≡ Some n
read_decimal most n h o =
    let s : 1 ≤ length (decimal n) = decimal_some n in
    rw (ne_eqb (length (decimal n)) 0 (omega arith), decimal_spare n (omega arith)) (read_whole most n (omega arith) o)

-- ---- read, then printed

-- A byte that is read is a digit and keeps the number within `most`.
record Digit (most v x : ℕ) (rest : List ℕ) (n : ℕ) : Type 0 where
  low : 48 ≤ x
  high : x ≤ 57
  small : 10 * v + (x - 48) ≤ most
  next : read_on most (10 * v + (x - 48)) rest ≡ Some n

never : {A : Type 0} {n : ℕ} → None ≡ Some n → A
never e = let z : ◌≡◌ {A = ℕ} 0 1 = cc in absurd (omega arith)

digit_of : (most v x : ℕ) (rest : List ℕ) {n : ℕ} → read_on most v (x ∷ rest) ≡ Some n → Digit most v x rest n
unfolding read_on
digit_of most v x rest {n} e = lt? x 48 (λ a. never (rw (lt-ltb x 48 a) at e))
    (λ a. lt? 57 x (λ b. never (rw (le-ltb x 48 a, lt-ltb 57 x b) at e))
    (λ b. lt? most (10 * v + (x - 48)) (λ o. never (rw (le-ltb x 48 a, le-ltb 57 x b, lt-ltb most (10 * v + (x - 48)) o) at e))
    (λ o. record { low = a; high = b; small = o; next = rw (le-ltb x 48 a, le-ltb 57 x b, le-ltb most (10 * v + (x - 48)) o) at e })))

-- What is read on from v above 0 has the digits of v, then those that were read.
digits_back : (most v k : ℕ) (field after : List ℕ) {n : ℕ} → 0 < v → read_on most v field ≡ Some n
    → digits_before (k + length field) n after ≡ digits_before k v (field ++ after)
unfolding read_on
digits_back most v k [] after {n} p e =
    let f : v ≡ n = cc in
    let z : k + 0 ≡ k = omega arith in
    rw (z, f)
digits_back most v k (x ∷ rest) after {n} p e =
    let d = digit_of most v x rest e in
    let w : ℕ = 10 * v + (x - 48) in
    let f : k + suc (length rest) ≡ suc k + length rest = omega arith in
    let q : w / 10 ≡ v = omega (arith, d.low, d.high) in
    let r : digit_byte (w % 10) ≡ x = omega (arith, d.low, d.high) in
    rw f (digits_back most w (suc k) rest after (omega arith) d.next
    ∙ digits_many k w (rest ++ after) (omega arith) ∙ rw (q, r))

-- It has as many digits more, and is at most `most`.
read_bounds : (most v j : ℕ) (field : List ℕ) {n : ℕ} → v < 10 ^ j → v ≤ most → read_on most v field ≡ Some n
    → (n < 10 ^ (j + length field)) × (n ≤ most)
unfolding read_on
read_bounds most v j [] {n} h o e =
    let f : v ≡ n = cc in
    let z : j + 0 ≡ j = omega arith in
    (rw (z, ← f) h, omega arith)
read_bounds most v j (x ∷ rest) {n} h o e =
    let d = digit_of most v x rest e in
    let f : j + suc (length rest) ≡ suc j + length rest = omega arith in
    rw f (read_bounds most (10 * v + (x - 48)) (suc j) rest (omega (arith, pow-suc 10 j, d.high)) d.small d.next)

-- Where there is room for the digits, more room changes nothing.
digits_room : (k m n : ℕ) (after : List ℕ) → n < 10 ^ suc k → n < 10 ^ suc m
    → digits_before (suc k) n after ≡ digits_before (suc m) n after
digits_room zero m n after h g =
    let a : n < 10 = omega (arith, pow-suc 10 0) in digits_few zero n after a ∙ sym (digits_few m n after a)
digits_room (suc k) zero n after h g =
    let a : n < 10 = omega (arith, pow-suc 10 0) in digits_few (suc k) n after a ∙ sym (digits_few zero n after a)
digits_room (suc k) (suc m) n after h g = lt? n 10
    (λ a. digits_few (suc k) n after a ∙ sym (digits_few (suc m) n after a))
    (λ a. digits_many (suc k) n after a
    ∙ digits_room k m (n / 10) (digit_byte (n % 10) ∷ after) (omega (arith, pow-suc 10 (suc k))) (omega (arith, pow-suc 10 (suc m)))
    ∙ sym (digits_many (suc m) n after a))

-- A field whose first digit is no zero is a decimal.
long_decimal : (most x n : ℕ) (rest : List ℕ) → most < 2 ^ 64 → (x ≡ 48 → ⊥) → read_on most 0 (x ∷ rest) ≡ Some n
    → x ∷ rest ≡ decimal n
unfolding decimal
long_decimal most x n rest h z e =
    let d = digit_of most 0 x rest e in
    let v : 10 * 0 + (x - 48) ≡ x - 48 = omega arith in
    let e' : read_on most (x - 48) rest ≡ Some n = rw v at d.next in
    let a : x - 48 < 10 = omega (arith, d.high) in
    let b : digit_byte (x - 48) ≡ x = omega (arith, d.low) in
    let p : 0 < x - 48 = positive x d.low z in
    let t = read_bounds most (x - 48) 1 rest {n = n} a (omega (arith, d.small)) e' in
    let c : 1 + length rest ≡ suc (length rest) = omega arith in
    sym (digits_room 19 (length rest) n [] (omega (arith, t.1)) (rw c at t.0)
    ∙ rw (← c) (digits_back most (x - 48) 1 rest [] p e' ∙ digits_few 0 (x - 48) (rest ++ []) a ∙ rw (b, append-nil)))
  where
    positive : (x : ℕ) → 48 ≤ x → (x ≡ 48 → ⊥) → 0 < x - 48
    positive x l z = is? x 48 (λ e. absurd (z e)) (λ n. omega arith)

-- A field with a zero in front is "0".
zero_decimal : (most n : ℕ) (rest : List ℕ) → spare_zero (48 ∷ rest) ≡ false → read_on most 0 (48 ∷ rest) ≡ Some n
    → 48 ∷ rest ≡ decimal n
unfolding decimal digits_before read_on
zero_decimal most n [] s e =
    let d = digit_of most 0 48 [] e in
    let z : 0 ≡ n = cc d.next in
    rw (← z)
zero_decimal most n (y ∷ rest) s e =
    let z : true ≡ false = rw (le-leb 2 (suc (suc (length rest))) (omega arith)) at s in
    let w : ◌≡◌ {A = ℕ} 0 1 = cc in absurd (omega arith)

-- NOTHING ELSE IS READ AS IT.
pub only_decimal : (most n : ℕ) (field : List ℕ) → most < 2 ^ 64 → number_of most field ≡ Some n → field ≡ decimal n
only_decimal most n [] h e = never e
only_decimal most n (x ∷ rest) h e =
    let e' = rw (ne_eqb (suc (length rest)) 0 (λ z. omega arith)) at e in
    by_test (spare_zero (x ∷ rest)) (λ t. x ∷ rest ≡ decimal n) (λ s. never (rw s at e')) (λ s. is? x 48
    (λ q. rw q (zero_decimal most n rest (rw q at s) (rw q at (rw s at e')))) (λ z. long_decimal most x n rest h z (rw s at e')))
