-- THE LINES OF AN INPUT (document 01, "The console program"), and the same lines gathered byte by byte, each in the room of a line's length.
use Rattle.std.specs.Prelude.{Bool, true, cond, not, List, [], ◌∷◌, ◌++◌, ℕ, ◌-◌, eqb, leb, length, replicate, Option, Some, None}
use Prim.Native.Char.{code}
use Rattle.console_text.specs.Fields.{split}

-- ---- the lines

-- A line: its bytes, or that it is too long, which is bad.
pub data Text : Type 0 where
  whole : List ℕ → Text
  too_long : Text

-- "have at most 80 bytes"
abbrev pub line_most : ℕ
line_most = 80

unfoldable pub text_of : List ℕ → Text
text_of bytes = cond (leb (length bytes) line_most) (whole bytes) too_long

-- "Lines end with a newline (the last may lack it)": nothing after the last newline is no line.
unfoldable pub ended : List (List ℕ) → List Text
ended [] = []
ended (last ∷ []) = cond (eqb (length last) 0) [] (text_of last ∷ [])
ended (line ∷ next ∷ more) = text_of line ∷ ended (next ∷ more)

unfoldable pub lines_of : List ℕ → List Text
lines_of input = ended (split (code "\n") input)

-- ---- byte by byte

-- What the code holds of a line: its bytes, as long as there is room for them.
abbrev pub held : Option (List ℕ) → Text
held (Some bytes) = whole bytes
held None = too_long

-- What it holds of a line with this text.
abbrev pub holding : Text → Option (List ℕ)
holding (whole bytes) = Some bytes
holding too_long = None

-- The bytes in that room, with zeros behind them.
abbrev pub padded : List ℕ → List ℕ
padded bytes = bytes ++ replicate (line_most - length bytes) 0

abbrev pub new_line : Text
new_line = whole []

-- What is left at the end of the input is a line unless it is empty.
abbrev pub left_over : Text → Bool
left_over (whole bytes) = not (eqb (length bytes) 0)
left_over too_long = true

-- One byte more. There is no room beyond line_most.
abbrev pub grown : Text → ℕ → Text
grown (whole bytes) x = cond (leb line_most (length bytes)) too_long (whole (bytes ++ (x ∷ [])))
grown too_long x = too_long

-- A byte's answer, the line that it completes, and the line so far after it.
abbrev pub fed_answer : Text → ℕ → Option Text
fed_answer g x = cond (eqb x (code "\n")) (Some g) None

abbrev pub fed_next : Text → ℕ → Text
fed_next g x = cond (eqb x (code "\n")) new_line (grown g x)

-- A line that is complete comes before what the new one gives; else the line goes on.
unfoldable pub on_fed : Option Text → List Text → List Text
on_fed (Some text) rest = text ∷ rest
on_fed None rest = rest

-- What a caller gets that feeds the bytes in order and takes each complete line.
unfoldable pub gathered : Text → List ℕ → List Text
gathered g [] = cond (left_over g) (g ∷ []) []
gathered g (x ∷ rest) = on_fed (fed_answer g x) (gathered (fed_next g x) rest)
