-- Document 01's printed example and the edges of its rules, computed from the definitions.
use Rattle.std.specs.Prelude.{◌≡◌, refl, [], ◌∷◌, ◌++◌, map, replicate, Some, None, codes}
use Rattle.console_text.specs.declared.parse.Line.TheVariants as change
use Rattle.console_text.specs.Decimal.{digits_before, decimal, read_on}
use Rattle.console_text.specs.Reading.{kn_bytes}
use Rattle.console_text.specs.Output.{output_names, row_line, sum_line, no_line, bad_line}
use Rattle.console_text.specs.Input.{numbers_in, settings_line, change_line}
use Rattle.console_text.specs.Lines.{whole, too_long, text_of, ended, lines_of}

-- "Output:", as it is printed there
output_printed : output_names
    ++ (row_line 7 5 0 ++ (row_line 7 1 25 ++ (row_line 7 4 140 ++ (sum_line 7 3 2
    ++ (row_line 3 1 25 ++ (row_line 3 2 4294967271 ++ (row_line 3 3 5 ++ (sum_line 3 3 1 ++ no_line 9 7))))))))
    ≡ codes "time,kind,first,second\n7,row,5,0.0\n7,row,1,0.3\n7,row,4,1.4\n7,sum,3,2\n3,row,1,0.3\n3,row,2,-0.3\n3,row,3,0.1\n3,sum,3,1\n9,no,7,0\n"
unfolding decimal digits_before
output_printed = refl

-- -4, -5, -14, the least and the largest reading
readings_printed : map kn_bytes (4294967292 ∷ 4294967291 ∷ 4294967282 ∷ 2147483648 ∷ 2147483647 ∷ [])
    ≡ map codes ("0.0" ∷ "-0.1" ∷ "-0.1" ∷ "-21474836.5" ∷ "21474836.5" ∷ [])
unfolding decimal digits_before
readings_printed = refl

bad_printed : bad_line 18446744073709551615 ≡ codes "0,bad,18446744073709551615,0\n"
unfolding decimal digits_before
bad_printed = refl

-- "Input:", the settings, a change of each sign, the largest word and the readings at both ends
settings_read : settings_line (codes "4,2,8,16") ≡ Some (4, 2, 8, 16)
unfolding read_on numbers_in
settings_read = refl

changes_read : map (λ t. change_line (codes t))
    ("1,1,+,25" ∷ "2,2,+,-25" ∷ "6,2,-,0" ∷ "6,2,=,0" ∷ "9,0,.,0" ∷ "7,0,?,0"
    ∷ "4294967295,4294967295,+,2147483647" ∷ "0,0,+,-2147483648" ∷ [])
    ≡ map Some (change.Set 1 1 25 ∷ change.Set 2 2 4294967271 ∷ change.Clear 6 2 ∷ change.Update 6 2 0 ∷ change.Advance 9 ∷ change.LookBack 7
    ∷ change.Set 4294967295 4294967295 2147483647 ∷ change.Set 0 0 2147483648 ∷ [])
unfolding read_on numbers_in
changes_read = refl

-- A minus before 0, a time or a tag; spare zeros; a plus before a number; numbers out of range; empty fields; two and four commas; an
-- unused field that is not 0; other signs; blanks
bad_read : map (λ t. change_line (codes t))
    ("1,1,+,-0" ∷ "-1,1,+,0" ∷ "1,-1,+,0" ∷ "01,1,+,0" ∷ "1,00,+,0" ∷ "1,1,+,05" ∷ "1,1,+,-05" ∷ "1,1,+,+5"
    ∷ "4294967296,1,+,0" ∷ "1,1,+,2147483648" ∷ "1,1,+,-2147483649" ∷ ",1,+,0" ∷ "1,1,,0" ∷ "1,1,+," ∷ "1,1,+,-" ∷ ""
    ∷ "1,1,+" ∷ "1,1,+,0,0" ∷ "1,1,-,5" ∷ "1,1,.,0" ∷ "1,0,?,1" ∷ "1,1,++,0" ∷ "1,1,*,0" ∷ " 1,1,+,0" ∷ "1,1,+,0 " ∷ [])
    ≡ replicate 25 None
unfolding read_on numbers_in
bad_read = refl

-- An empty line is a line, the last may lack its newline, and a line of 81 bytes is too long.
lines_read : map (λ t. lines_of (codes t)) ("a\n\nb" ∷ "a\n" ∷ "" ∷ [])
    ≡ (whole (codes "a") ∷ whole [] ∷ whole (codes "b") ∷ []) ∷ (whole (codes "a") ∷ []) ∷ [] ∷ []
unfolding text_of ended lines_of
lines_read = refl

long_read : lines_of (replicate 80 7 ++ (10 ∷ replicate 81 7 ++ (10 ∷ 7 ∷ [])))
    ≡ whole (replicate 80 7) ∷ too_long ∷ whole (7 ∷ []) ∷ []
unfolding text_of ended lines_of
long_read = refl
