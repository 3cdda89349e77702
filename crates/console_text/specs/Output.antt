-- THE OUTPUT LINES (document 01, "The console program"), byte for byte.
use Rattle.std.specs.Prelude.{List, [], ◌∷◌, ◌++◌, ℕ, codes}
use Prim.Native.Char.{code}
use Rattle.console_text.specs.Decimal.{decimal}
use Rattle.console_text.specs.Reading.{kn_bytes}

-- The names line.
abbrev pub output_names : List ℕ
output_names = codes "time,kind,first,second\n"

abbrev pub comma : List ℕ
comma = code "," ∷ []

abbrev pub newline : List ℕ
newline = code "\n" ∷ []

-- A line's start: time, kind and first field, each with its comma.
abbrev pub line_start : ℕ → List ℕ → ℕ → List ℕ
line_start time kind first = decimal time ++ (comma ++ (kind ++ (comma ++ (decimal first ++ comma))))

-- A whole line, the newline with it.
abbrev pub line : ℕ → List ℕ → ℕ → List ℕ → List ℕ
line time kind first second = line_start time kind first ++ (second ++ newline)

-- "per look-back its rows (tag, kN), then `sum` (rows, blocks listed)"
abbrev pub row_line : ℕ → ℕ → ℕ → List ℕ
row_line time tag reading = line time (codes "row") tag (kn_bytes reading)

abbrev pub sum_line : ℕ → ℕ → ℕ → List ℕ
sum_line time rows blocks = line time (codes "sum") rows (decimal blocks)

-- "`no` (refusal, 0)"
abbrev pub no_line : ℕ → ℕ → List ℕ
no_line time refusal = line time (codes "no") refusal (decimal 0)

-- "`0,bad,LINE,0` (LINE counts from 1, also for a missing line)"
abbrev pub bad_line : ℕ → List ℕ
bad_line number = line 0 (codes "bad") number (decimal 0)

-- Every line fits in 64 bytes.
abbrev pub line_room : ℕ
line_room = 64
