-- THE CONSOLE BYTE BY BYTE, as a program runs it: each byte is fed, a complete line is taken, and at the end come the last line and a missing one.
use Rattle.std.specs.Prelude.{Bool, true, false, cond, List, [], ◌∷◌, ◌++◌, ℕ, ◌+◌, ltb, Option, Some, None}
use Rattle.console_text.specs.Lines.{Text, new_line, left_over, fed_answer, fed_next}
use Rattle.console_run.specs.declared.turn.Stage.{Stage}
use Rattle.console_run.specs.declared.turn.Stage.TheVariants.{SettingsNames, Settings, ChangeNames, Changes, Over}
use Rattle.console_run.specs.declared.turn.Said.TheVariants as said
use Rattle.console_run.specs.declared.feed.Console.{Console}
use Rattle.console_run.specs.declared.feed.Step.{Step}
use Rattle.console_run.specs.Console.{Lent, Told, told, line_does, said_lines, joined, missing}

-- What a step says, of which line, and the console and the lent words after it.
pub record Stepped : Type 0 where
  pub said : Told
  pub number : ℕ
  pub console : Console
  pub lent : Lent

abbrev pub stepped : Step → Console → Lent → Stepped
stepped step console words = record { said = told step.said; number = step.number; console = console; lent = words }

-- Before the first byte.
abbrev pub begun : Console
begun = record { stage = SettingsNames; gather = new_line; number = 1 }

-- 64 bits hold the count of every input's lines.
abbrev pub count_most : ℕ
count_most = 18446744073709551615

unfoldable pub next_number : ℕ → ℕ
next_number number = cond (ltb number count_most) (number + 1) number

-- No line is complete: the console goes on as it is.
abbrev pub goes_on : Console → Step
goes_on c = record { said = said.Nothing; number = c.number }

abbrev pub quiet : Console → Lent → Stepped
quiet c words = stepped (goes_on c) c words

-- This line is complete: what is said of it, by its number, and the next is awaited.
unfoldable pub taken : Console → Text → Lent → Stepped
taken c line words =
    let d = line_does c.stage line words in
    record { said = d.said; number = c.number; console = record c { stage = d.next; number = next_number c.number }; lent = d.lent }

-- What a byte does: the line goes on, or it is complete.
unfoldable pub fed_by : Option Text → Console → Lent → Stepped
fed_by None c words = quiet c words
fed_by (Some line) c words = taken c line words

unfoldable pub fed : Console → Lent → ℕ → Stepped
fed c words x = fed_by (fed_answer c.gather x) (record c { gather = fed_next c.gather x }) words

-- At the end of the input: the last line, if there is one that lacks its newline.
unfoldable pub last_taken : Console → Lent → Stepped
last_taken c words = cond (left_over c.gather) (taken (record c { gather = new_line }) c.gather words) (quiet c words)

-- ---- a program's loop

abbrev pub is_over : Stage → Bool
is_over SettingsNames = false
is_over Settings = false
is_over ChangeNames = false
is_over Changes = false
is_over Over = true

-- The console between two bytes, with the lent words.
pub record ConsoleState : Type 0 where
  pub console : Console
  pub lent : Lent

abbrev pub state : Console → Lent → ConsoleState
state c words = record { console = c; lent = words }

-- A byte more.
abbrev pub after_byte : ConsoleState → ℕ → ConsoleState
after_byte s x =
    let f = fed s.console s.lent x in
    state f.console f.lent

-- After these bytes. None is fed once the run is over.
unfoldable pub fed_all : ConsoleState → List ℕ → ConsoleState
fed_all s [] = s
fed_all s (x ∷ more) = cond (is_over s.console.stage) s (fed_all (after_byte s x) more)

-- ---- what it prints

-- The output lines of a step, and their bytes.
abbrev pub step_lines : Stepped → List (List ℕ)
step_lines s = said_lines s.said s.number s.lent.rows

abbrev pub step_bytes : Stepped → List ℕ
step_bytes s = joined (step_lines s)

-- The output lines for these bytes, as long as the run is not over.
unfoldable pub fed_lines : ConsoleState → List ℕ → List (List ℕ)
fed_lines s [] = []
fed_lines s (x ∷ more) =
    cond (is_over s.console.stage) [] (step_lines (fed s.console s.lent x) ++ fed_lines (after_byte s x) more)

-- Those at the end of the input: of the last line, then of a missing one.
unfoldable pub finish_lines : ConsoleState → List (List ℕ)
finish_lines s =
    let t = last_taken s.console s.lent in
    step_lines t ++ said_lines (missing t.console.stage) t.console.number t.lent.rows

-- Those for an input from here on, by a program that feeds the bytes in order until the run is over, prints what each step says, and then finishes.
unfoldable pub run_lines : ConsoleState → List ℕ → List (List ℕ)
run_lines s input = fed_lines s input ++ finish_lines (fed_all s input)
