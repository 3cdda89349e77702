-- PLAIN DECIMALS AS BYTES (document 01, "The console program"): how a number prints, and which bytes stand for a number.
use Rattle.std.specs.Prelude.{Bool, cond, ◌&&◌, List, [], ◌∷◌, ℕ, zero, suc, ◌+◌, ◌*◌, ◌-◌, ◌/◌, ◌%◌, eqb, ltb, leb, length, get_or, Option, Some, None}
use Prim.Native.Char.{code}

-- ---- printing

-- The byte of a digit.
abbrev pub digit_byte : ℕ → ℕ
digit_byte d = code "0" + d

-- The digits of n, most significant first, in front of the bytes that follow. k is how many digits there may be.
unfoldable pub digits_before : ℕ → ℕ → List ℕ → List ℕ
digits_before zero n after = after
digits_before (suc k) n after =
    cond (ltb n 10) (digit_byte n ∷ after) (digits_before k (n / 10) (digit_byte (n % 10) ∷ after))

-- A number's decimal, without spare zeros. Twenty digits hold every number of 64 bits.
unfoldable pub decimal : ℕ → List ℕ
decimal n = digits_before 20 n []

-- ---- reading: the number that a field stands for, if it stands for one

-- What the digits say, read on from v. Each byte must be a digit and the number at most `most`.
unfoldable pub read_on : ℕ → ℕ → List ℕ → Option ℕ
read_on most v [] = Some v
read_on most v (x ∷ rest) =
    let w = 10 * v + (x - code "0") in
    cond (ltb x (code "0")) None (cond (ltb (code "9") x) None (cond (ltb most w) None (read_on most w rest)))

-- A zero before other digits.
abbrev pub spare_zero : List ℕ → Bool
spare_zero field = leb 2 (length field) && eqb (get_or field 0 0) (code "0")

-- "plain decimals without spare zeros": at least one digit
abbrev pub number_of : ℕ → List ℕ → Option ℕ
number_of most field = cond (eqb (length field) 0) None (cond (spare_zero field) None (read_on most 0 field))

-- "Settings, times and tags may be any word"
abbrev pub word_of : List ℕ → Option ℕ
word_of field = number_of 4294967295 field

-- "a minus only before a non-zero value"; "A negative reading v is stored as 4,294,967,296 + v"
abbrev pub negated : Option ℕ → Option ℕ
negated (Some n) = cond (eqb n 0) None (Some (4294967296 - n))
negated None = None

-- "values any reading"
abbrev pub reading_of : List ℕ → Option ℕ
reading_of [] = None
reading_of (x ∷ rest) = cond (eqb x (code "-")) (negated (number_of 2147483648 rest)) (number_of 2147483647 (x ∷ rest))
