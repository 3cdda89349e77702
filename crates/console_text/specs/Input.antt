-- THE INPUT LINES (document 01, "The console program"): the names lines, the settings and the changes.
use Rattle.std.specs.Prelude.{cond, ◌&&◌, List, [], ◌∷◌, ℕ, eqb, Option, Some, None, codes}
use Prim.Native.Char.{code}
use Rattle.console_text.specs.declared.parse.Line.{Line}
use Rattle.console_text.specs.declared.parse.Line.TheVariants as change
use Rattle.console_text.specs.Decimal.{word_of, reading_of}
use Rattle.console_text.specs.Fields.{fields_of, four}

-- "Each names line must stand exactly so."
abbrev pub settings_names : List ℕ
settings_names = codes "block,useful,blocks,tags"

abbrev pub change_names : List ℕ
change_names = codes "time,tag,sign,value"

-- ---- four fields

-- A sign is one byte, told by its code.
abbrev pub sign_of : List ℕ → Option ℕ
sign_of [] = None
sign_of (x ∷ []) = Some x
sign_of (x ∷ y ∷ rest) = None

-- Four numbers, if no field stands for none.
abbrev pub numbers_of : Option ℕ → Option ℕ → Option ℕ → Option ℕ → Option (ℕ × ℕ × ℕ × ℕ)
numbers_of (Some a) (Some b) (Some c) (Some d) = Some (a, b, c, d)
numbers_of (Some a) (Some b) (Some c) None = None
numbers_of (Some a) (Some b) None d = None
numbers_of (Some a) None c d = None
numbers_of None b c d = None

-- A line of two words and two fields more, each read in its own way: "Settings, times and tags may be any word, values any reading."
unfoldable pub numbers_in : (List ℕ → Option ℕ) → (List ℕ → Option ℕ) → List ℕ → Option (ℕ × ℕ × ℕ × ℕ)
numbers_in third fourth line = four None (λ a b c d. numbers_of (word_of a) (word_of b) (third c) (fourth d)) (fields_of line)

-- ---- the settings

-- b,q,B,D
abbrev pub settings_line : List ℕ → Option (ℕ × ℕ × ℕ × ℕ)
settings_line line = numbers_in word_of word_of line

-- ---- the changes

-- "Signs: + set, - clear, = new reading, . clock, ? look back; unused fields are 0."
abbrev pub by_sign : ℕ → ℕ → ℕ → ℕ → Option Line
by_sign sign time tag value =
    cond (eqb sign (code "+")) (Some (change.Set time tag value))
    (cond (eqb sign (code "=")) (Some (change.Update time tag value))
    (cond (eqb sign (code "-")) (cond (eqb value 0) (Some (change.Clear time tag)) None)
    (cond (eqb sign (code ".")) (cond (eqb value 0 && eqb tag 0) (Some (change.Advance time)) None)
    (cond (eqb sign (code "?")) (cond (eqb value 0 && eqb tag 0) (Some (change.LookBack time)) None)
    None))))

-- time,tag,sign,value
abbrev pub change_of : Option (ℕ × ℕ × ℕ × ℕ) → Option Line
change_of (Some (time, tag, sign, value)) = by_sign sign time tag value
change_of None = None

abbrev pub change_line : List ℕ → Option Line
change_line line = change_of (numbers_in sign_of reading_of line)
