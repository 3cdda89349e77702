-- THE CONSOLE (document 01, "The console program"): what each input line does, what is printed for it, and the whole run, from the input's bytes
-- to the output's. How a line reads and how an output line looks is console_text's; what a call does is `step` of calls.
use Rattle.std.specs.Prelude.{cond, List, [], ◌∷◌, ◌++◌, ℕ, zero, suc, ◌+◌, ◌*◌, get_or, replicate, bytes_eq, Option, Some, None}
use Rattle.layout.specs.Sizes.{row_len}
use Rattle.layout.specs.Settings.{settings_of}
use Rattle.calls.specs.Calls.{Answer, Done, Shown, Numbers, Refused}
use Rattle.calls.specs.Step.{step}
use Rattle.applying.specs.declared.call.Call.{Call}
use Rattle.applying.specs.declared.call.Call.TheVariants as call
use Rattle.applying.specs.Applied.{call_of, buffers_after}
use Rattle.console_text.specs.declared.parse.Line.{Line}
use Rattle.console_text.specs.declared.parse.Line.TheVariants as change
use Rattle.console_text.specs.Input.{settings_names, settings_line, change_names, change_line}
use Rattle.console_text.specs.Lines.{Text, whole, too_long, lines_of}
use Rattle.console_text.specs.Output.{output_names, row_line, sum_line, no_line, bad_line}
use Rattle.console_run.specs.declared.turn.Stage.{Stage}
use Rattle.console_run.specs.declared.turn.Stage.TheVariants.{SettingsNames, Settings, ChangeNames, Changes, Over}
use Rattle.console_run.specs.declared.turn.Said.{Said}
use Rattle.console_run.specs.declared.turn.Said.TheVariants as said
use Rattle.console_run.specs.declared.turn.Turn.{Turn}
use Rattle.console_run.specs.declared.turn.Asked.{Asked}

-- ---- what a line does

-- The lent words: the register's store, and a look-back's two buffers.
pub record Lent : Type 0 where
  pub store : List ℕ
  pub rows : List ℕ
  pub list : List ℕ

abbrev pub lent : List ℕ → List ℕ → List ℕ → Lent
lent store rows list = record { store = store; rows = rows; list = list }

-- What is said of a line: nothing, that it is bad, a refusal's number at a time, or a look-back's time, rows and blocks listed.
pub data Told : Type 0 where
  Nothing : Told
  Bad : Told
  No : ℕ → ℕ → Told
  Slice : ℕ → ℕ → ℕ → Told

-- The same in code.
abbrev pub told : Said → Told
told said.Nothing = Nothing
told said.Bad = Bad
told (said.No time refusal) = No time refusal
told (said.Slice time rows blocks) = Slice time rows blocks

-- The line that is awaited next, what is said of this one, and the lent words after it.
pub record Does : Type 0 where
  pub next : Stage
  pub said : Told
  pub lent : Lent

abbrev pub tells : Stage → Told → Lent → Does
tells next said words = record { next = next; said = said; lent = words }

-- The same of a turn in code.
abbrev pub does : Turn → Lent → Does
does turn words = tells turn.next (told turn.said) words

abbrev pub says : Stage → Said → Turn
says next said = record { next = next; said = said }

-- "Any other line .. prints `0,bad,LINE,0` ..; among the first three lines .. it ends the run." Once it is over, nothing is said of any line.
abbrev pub bad_at : Stage → Turn
bad_at SettingsNames = says Over said.Bad
bad_at Settings = says Over said.Bad
bad_at ChangeNames = says Over said.Bad
bad_at Changes = says Changes said.Bad
bad_at Over = says Over said.Nothing

-- "Each names line must stand exactly so."
abbrev pub names_do : Stage → Stage → List ℕ → List ℕ → Turn
names_do stage next names text = cond (bytes_eq text names) (says next said.Nothing) (bad_at stage)

-- A call's answer at a time. Accepted changes and clock moves print nothing; a look-back prints rows and sum, a refused call `no`. (None of these calls
-- answers numbers.)
abbrev pub answered : Stage → Stage → ℕ → Answer → Lent → Does
answered done refused time (Done h) words = tells done Nothing words
answered done refused time (Shown v) words = tells done (Slice time v.counts.rows v.counts.blocks) words
answered done refused time (Numbers l) words = tells refused (No time 0) words
answered done refused time (Refused n) words = tells refused (No time n) words

-- A call at a time, and what is awaited after it, accepted or refused.
unfoldable pub called : Stage → Stage → ℕ → Call → Lent → Does
called done refused time call words =
    let reply = step words.store (call_of call words.rows words.list) in
    let after = buffers_after call words.rows words.list reply.lent in
    answered done refused time reply.answer (lent reply.store (get_or after 0 []) (get_or after 1 []))

-- "Start is called before the third line is read; refused, it prints `no` at time 0 and ends the run."
abbrev pub settings_do : Option (ℕ × ℕ × ℕ × ℕ) → Lent → Does
settings_do (Some (b, q, blocks, tags)) words = called ChangeNames Over 0 (call.Start (settings_of b q blocks tags)) words
settings_do None words = does (bad_at Settings) words

-- "Signs: + set, - clear, = new reading, . clock, ? look back": a change's time, and its call
abbrev pub asked_of : Line → Asked
asked_of (change.Set time tag reading) = record { time = time; call = call.Set time tag reading }
asked_of (change.Clear time tag) = record { time = time; call = call.Clear time tag }
asked_of (change.Update time tag reading) = record { time = time; call = call.Update time tag reading }
asked_of (change.Advance time) = record { time = time; call = call.Advance time }
asked_of (change.LookBack time) = record { time = time; call = call.LookBack time }

abbrev pub change_do : Option Line → Lent → Does
change_do (Some line) words = called Changes Changes (asked_of line).time (asked_of line).call words
change_do None words = does (bad_at Changes) words

abbrev pub text_does : Stage → List ℕ → Lent → Does
text_does SettingsNames text words = does (names_do SettingsNames Settings settings_names text) words
text_does Settings text words = settings_do (settings_line text) words
text_does ChangeNames text words = does (names_do ChangeNames Changes change_names text) words
text_does Changes text words = change_do (change_line text) words
text_does Over text words = does (bad_at Over) words

abbrev pub line_does : Stage → Text → Lent → Does
line_does stage (whole text) words = text_does stage text words
line_does stage too_long words = does (bad_at stage) words

-- ---- what is printed

-- The i-th row, counted from 0: its tag and its reading stand in the row buffer. Since when it stands is not printed.
abbrev pub row_line_at : ℕ → List ℕ → ℕ → List ℕ
row_line_at time rows i = row_line time (get_or rows (row_len * i) 0) (get_or rows (row_len * i + 1) 0)

-- n rows, from the i-th on
unfoldable pub row_lines : ℕ → List ℕ → ℕ → ℕ → List (List ℕ)
row_lines time rows i zero = []
row_lines time rows i (suc n) = row_line_at time rows i ∷ row_lines time rows (suc i) n

-- The output lines for the input line `number`. "per look-back its rows (tag, kN), then `sum` (rows, blocks listed); `no` (refusal, 0)"
unfoldable pub said_lines : Told → ℕ → List ℕ → List (List ℕ)
said_lines Nothing number rows = []
said_lines Bad number rows = bad_line number ∷ []
said_lines (No time refusal) number rows = no_line time refusal ∷ []
said_lines (Slice time count blocks) number rows = row_lines time rows 0 count ++ (sum_line time count blocks ∷ [])

unfoldable pub joined : List (List ℕ) → List ℕ
joined [] = []
joined (line ∷ more) = line ++ joined more

abbrev pub said_bytes : Told → ℕ → List ℕ → List ℕ
said_bytes said number rows = joined (said_lines said number rows)

-- ---- the whole run

-- "where one of these is missing, it ends the run"
abbrev pub missing : Stage → Told
missing SettingsNames = Bad
missing Settings = Bad
missing ChangeNames = Bad
missing Changes = Nothing
missing Over = Nothing

-- What is printed for the lines that are left, the first of which has this number. "LINE counts from 1, also for a missing line"
unfoldable pub console_from : Stage → Lent → ℕ → List Text → List ℕ
console_from stage words number [] = said_bytes (missing stage) number words.rows
console_from stage words number (text ∷ more) =
    let d = line_does stage text words in
    said_bytes d.said number d.lent.rows ++ console_from d.next d.lent (suc number) more

-- "The store has 16,000 words." The buffers hold what the largest settings ask for: 4,096 rows and 4,096 block numbers.
abbrev pub store_len : ℕ
store_len = 16000

abbrev pub list_len : ℕ
list_len = 4096

abbrev pub tags_most : ℕ
tags_most = 4096

abbrev pub rows_len : ℕ
rows_len = row_len * tags_most

unfoldable pub blank : Lent
blank = lent (replicate store_len 0) (replicate rows_len 0) (replicate list_len 0)

-- THE CONSOLE, from the bytes of standard input to those of standard output. "Output: first of all a names line"
unfoldable pub console_output : List ℕ → List ℕ
console_output input = output_names ++ console_from SettingsNames blank 1 (lines_of input)
