-- READINGS AS PRINTED (document 01, "The console program"): tenths of a kN, half away from zero, never "-0.0".
use Rattle.std.specs.Prelude.{Bool, cond, ◌&&◌, List, [], ◌∷◌, ◌++◌, ℕ, ◌+◌, ◌-◌, ◌/◌, ◌%◌, leb}
use Prim.Native.Char.{code}
use Rattle.console_text.specs.Decimal.{digit_byte, decimal}

-- "A negative reading v is stored as 4,294,967,296 + v"
abbrev pub is_below : ℕ → Bool
is_below reading = leb 2147483648 reading

-- A reading's decanewtons, its sign aside.
abbrev pub size_of : ℕ → ℕ
size_of reading = cond (is_below reading) (4294967296 - reading) reading

-- "tenths of a kN (10 daN), half away from zero"
abbrev pub tenths_of : ℕ → ℕ
tenths_of reading = (size_of reading + 5) / 10

-- A minus only before tenths that are not 0.
abbrev pub sign_bytes : ℕ → List ℕ
sign_bytes reading = cond (is_below reading && leb 1 (tenths_of reading)) (code "-" ∷ []) []

-- Sign, whole kN, point, tenth.
abbrev pub kn_bytes : ℕ → List ℕ
kn_bytes reading = sign_bytes reading ++ (decimal (tenths_of reading / 10) ++ (code "." ∷ digit_byte (tenths_of reading % 10) ∷ []))
