-- THE CONSOLE BYTE BY BYTE PRINTS THE CONSOLE'S OUTPUT.
use Rattle.std.specs.Prelude.{◌≡◌, refl, true, false, cond, List, [], ◌∷◌, ◌++◌, ℕ, suc, ◌+◌, ◌<◌, length}
use Rattle.std.proofs.Common.{sym, ap, ◌∙◌, append_assoc, arith, add-one, lt-ltb, eq-eqb, ne_eqb}
use Rattle.base.specs.Branch.{by_test, is?}
use Rattle.console_text.specs.Lines.{Text, whole, too_long, new_line, left_over, grown, gathered}
use Rattle.console_text.specs.LinesLaws.{gathered_end, gathered_on, gathered_lines}
use Rattle.console_text.specs.Output.{output_names}
use Rattle.console_run.specs.declared.turn.Stage.{Stage}
use Rattle.console_run.specs.declared.turn.Stage.TheVariants.{SettingsNames, Settings, ChangeNames, Changes, Over}
use Rattle.console_run.specs.declared.feed.Console.{Console}
use Rattle.console_run.specs.Console.{Lent, Nothing, line_does, said_lines, joined, said_bytes, missing, console_from, blank, console_output}
use Rattle.console_run.specs.Feed.{begun, count_most, next_number, quiet, taken, fed_by, fed, last_taken, is_over, ConsoleState, state, after_byte, fed_all, step_lines, step_bytes, fed_lines, finish_lines, run_lines}

-- ---- bytes, one after another

pub all_over : (s : ConsoleState) (input : List ℕ) → is_over s.console.stage ≡ true → fed_all s input ≡ s
unfolding fed_all
all_over s [] e = refl
all_over s (x ∷ more) e = rw e

pub all_more : (s : ConsoleState) (x : ℕ) (more : List ℕ) → is_over s.console.stage ≡ false → fed_all s (x ∷ more) ≡ fed_all (after_byte s x) more
unfolding fed_all
all_more s x more e = rw e

pub all_none : (s : ConsoleState) → fed_all s [] ≡ s
unfolding fed_all
all_none s = refl

-- READING IN CHUNKS IS READING AT ONCE.
pub in_chunks : (s : ConsoleState) (chunk more : List ℕ) → fed_all (fed_all s chunk) more ≡ fed_all s (chunk ++ more)
in_chunks s [] more = rw (all_none s)
in_chunks s (x ∷ chunk) more = by_test (is_over s.console.stage) (λ b. fed_all (fed_all s (x ∷ chunk)) more ≡ fed_all s (x ∷ (chunk ++ more)))
    (λ e. rw (all_over s (x ∷ chunk) e, all_over s more e, all_over s (x ∷ (chunk ++ more)) e))
    (λ e. rw (all_more s x chunk e, all_more s x (chunk ++ more) e) (in_chunks (after_byte s x) chunk more))

-- ---- their lines, one after another

pub lines_none : (s : ConsoleState) → fed_lines s [] ≡ []
unfolding fed_lines
lines_none s = refl

pub lines_over : (s : ConsoleState) (input : List ℕ) → is_over s.console.stage ≡ true → fed_lines s input ≡ []
unfolding fed_lines
lines_over s [] e = refl
lines_over s (x ∷ more) e = rw e

pub lines_more : (s : ConsoleState) (x : ℕ) (more : List ℕ) → is_over s.console.stage ≡ false
    → fed_lines s (x ∷ more) ≡ step_lines (fed s.console s.lent x) ++ fed_lines (after_byte s x) more
unfolding fed_lines
lines_more s x more e = rw e

joined_append : (l m : List (List ℕ)) → joined (l ++ m) ≡ joined l ++ joined m
unfolding joined
joined_append [] m = refl
joined_append (line ∷ l) m = ap (λ (r : List ℕ). line ++ r) (joined_append l m) ∙ sym (append_assoc line (joined l) (joined m))

-- The bytes of a run: once it is over or the input has ended those at the end, else a step's, then the rest.
run_over : (s : ConsoleState) (input : List ℕ) → is_over s.console.stage ≡ true → joined (run_lines s input) ≡ joined (finish_lines s)
unfolding run_lines
run_over s input e = rw (lines_over s input e, all_over s input e)

run_none : (s : ConsoleState) → joined (run_lines s []) ≡ joined (finish_lines s)
unfolding run_lines
run_none s = rw (lines_none s, all_none s)

run_more : (s : ConsoleState) (x : ℕ) (more : List ℕ) → is_over s.console.stage ≡ false
    → joined (run_lines s (x ∷ more)) ≡ step_bytes (fed s.console s.lent x) ++ joined (run_lines (after_byte s x) more)
unfolding run_lines
run_more s x more e =
    let step = step_lines (fed s.console s.lent x) in
    let next = after_byte s x in
    rw (lines_more s x more e, all_more s x more e)
    (ap joined (append_assoc step (fed_lines next more) (finish_lines (fed_all next more)))
    ∙ joined_append step (fed_lines next more ++ finish_lines (fed_all next more)))

-- ---- the whole input

-- Once it is over, nothing is said of any line.
over_said : (text : Text) (words : Lent) → line_does Over text words ≡ record { next = Over; said = Nothing; lent = words }
over_said (whole text) words = refl
over_said too_long words = refl

nothing_said : (number : ℕ) (rows : List ℕ) → said_bytes Nothing number rows ≡ []
unfolding said_lines joined
nothing_said number rows = refl

pub over_from : (words : Lent) (number : ℕ) (lines : List Text) → console_from Over words number lines ≡ []
unfolding console_from
over_from words number [] = nothing_said number words.rows
over_from words number (text ∷ more) = rw (over_said text words, nothing_said number words.rows) (over_from words (suc number) more)

-- A line more.
from_more : (stage : Stage) (words : Lent) (number : ℕ) (text : Text) (more : List Text)
    → console_from stage words number (text ∷ more)
    ≡ said_bytes (line_does stage text words).said number (line_does stage text words).lent.rows
    ++ console_from (line_does stage text words).next (line_does stage text words).lent (suc number) more
unfolding console_from
from_more stage words number text more = refl

from_none : (stage : Stage) (words : Lent) (number : ℕ) → console_from stage words number [] ≡ said_bytes (missing stage) number words.rows
unfolding console_from
from_none stage words number = refl

next_is : (number : ℕ) → number < count_most → next_number number ≡ suc number
unfolding next_number
next_is number h = rw (lt-ltb number count_most h, add-one number)

-- A line that is taken is said and passed.
module _ (c : Console) (line : Text) (words : Lent) (h : c.number < count_most) where
  taken_from : (more : List Text)
      → step_bytes (taken c line words)
      ++ console_from (taken c line words).console.stage (taken c line words).lent (taken c line words).console.number more
      ≡ console_from c.stage words c.number (line ∷ more)
  unfolding taken
  taken_from more = rw (next_is c.number h) (sym (from_more c.stage words c.number line more))

finished : (c : Console) (words : Lent) → c.number < count_most → joined (finish_lines (state c words)) ≡ console_from c.stage words c.number (gathered c.gather [])
unfolding finish_lines last_taken gathered
finished c words h = by_test (left_over c.gather)
    (λ b. let s = cond b (taken (record c { gather = new_line }) c.gather words) (quiet c words) in
    joined (step_lines s ++ said_lines (missing s.console.stage) s.console.number s.lent.rows)
    ≡ console_from c.stage words c.number (cond b (c.gather ∷ []) []))
    (λ e. let s = taken (record c { gather = new_line }) c.gather words in
    joined_append (step_lines s) (said_lines (missing s.console.stage) s.console.number s.lent.rows)
    ∙ rw (← from_none s.console.stage s.lent s.console.number) (taken_from (record c { gather = new_line }) c.gather words h []))
    (λ e. joined_append (said_lines Nothing c.number words.rows) (said_lines (missing c.stage) c.number words.rows)
    ∙ rw (nothing_said c.number words.rows, from_none c.stage words c.number))

-- A newline completes the line, and any other byte goes on with it.
module _ (c : Console) (words : Lent) (x : ℕ) where
  fed_newline : x ≡ 10 → fed c words x ≡ taken (record c { gather = new_line }) c.gather words
  unfolding fed fed_by
  fed_newline e = rw (eq-eqb x 10 e)

  fed_other : (x ≡ 10 → ⊥) → fed c words x ≡ quiet (record c { gather = grown c.gather x }) words
  unfolding fed fed_by
  fed_other n = rw (ne_eqb x 10 n)

over? : {P : Type 0} (stage : Stage) → (stage ≡ Over → P) → (is_over stage ≡ false → P) → P
over? SettingsNames f g = g refl
over? Settings f g = g refl
over? ChangeNames f g = g refl
over? Changes f g = g refl
over? Over f g = f refl

-- From a place of the input on, the bytes' steps print what the lines that they end do.
abbrev Prints : List ℕ → Type 0
Prints input = (c : Console) (words : Lent) → c.number + length input < count_most
    → joined (run_lines (state c words) input) ≡ console_from c.stage words c.number (gathered c.gather input)

module _ (x : ℕ) (more : List ℕ) (rest : Prints more) (c : Console) (words : Lent) (h : c.number + suc (length more) < count_most) where
  prints_over : c.stage ≡ Over → joined (run_lines (state c words) (x ∷ more)) ≡ console_from c.stage words c.number (gathered c.gather (x ∷ more))
  prints_over e = run_over (state c words) (x ∷ more) (ap is_over e) ∙ finished c words (omega arith)
      ∙ rw (e, over_from words c.number (gathered c.gather []), over_from words c.number (gathered c.gather (x ∷ more)))

  taken_rest : let s = taken (record c { gather = new_line }) c.gather words in
      joined (run_lines (state s.console s.lent) more) ≡ console_from s.console.stage s.lent s.console.number (gathered new_line more)
  unfolding taken
  taken_rest =
      let s = taken (record c { gather = new_line }) c.gather words in rest s.console s.lent (omega (arith, next_is c.number (omega arith)))

  -- A byte's step and what follows it.
  abbrev Goes : Type 0
  Goes = step_bytes (fed c words x) ++ joined (run_lines (after_byte (state c words) x) more)
      ≡ console_from c.stage words c.number (gathered c.gather (x ∷ more))

  prints_newline : x ≡ 10 → Goes
  prints_newline e = rw (fed_newline c words x e, gathered_end c.gather x more e, taken_rest)
      (taken_from (record c { gather = new_line }) c.gather words (omega arith) (gathered new_line more))

  prints_other : (x ≡ 10 → ⊥) → Goes
  prints_other n = rw (fed_other c words x n, gathered_on c.gather x more n, nothing_said c.number words.rows)
      (rest (record c { gather = grown c.gather x }) words (omega arith))

  prints_more : joined (run_lines (state c words) (x ∷ more)) ≡ console_from c.stage words c.number (gathered c.gather (x ∷ more))
  prints_more = over? c.stage prints_over (λ e. run_more (state c words) x more e ∙ is? x 10 prints_newline prints_other)

prints : (input : List ℕ) → Prints input
prints [] c words h = run_none (state c words) ∙ finished c words (omega arith)
prints (x ∷ more) c words h = prints_more x more (prints more) c words h

-- A PROGRAM THAT PRINTS THE NAMES LINE, FEEDS THE BYTES IN ORDER UNTIL THE RUN IS OVER, PRINTS WHAT EACH STEP SAYS, AND THEN FINISHES, PRINTS THE
-- CONSOLE'S OUTPUT. (64 bits count the lines.)
pub prints_output : (input : List ℕ) → 1 + length input < count_most
    → joined (output_names ∷ run_lines (state begun blank) input) ≡ console_output input
unfolding joined console_output
prints_output input h = rw (prints input begun blank h, gathered_lines input)
