-- The output lines one by one.
use Rattle.std.specs.Prelude.{◌≡◌, refl, cond, List, [], ◌∷◌, ℕ, zero, suc, ◌+◌, ◌≤◌, ◌<◌, leb, length, get_or}
use Rattle.std.proofs.Common.{sym, ap, ◌∙◌, arith, length-append, le-leb}
use Rattle.std.proofs.Math.ListN.{get_or-eq_default, get_or-append}
use Rattle.std.proofs.lemmas.List.{get_or_at}
use Rattle.std.proofs.lemmas.Bool.{lt-leb}
use Rattle.base.specs.Branch.{lt?}
use Rattle.console_text.specs.Output.{sum_line, no_line, bad_line}
use Rattle.console_run.specs.Console.{Told, Nothing, Bad, No, Slice, row_line_at, row_lines, said_lines}

-- How many lines are printed.
abbrev pub line_count : Told → ℕ
line_count Nothing = 0
line_count Bad = 1
line_count (No time refusal) = 1
line_count (Slice time count blocks) = count + 1

-- A look-back's i-th line.
abbrev pub slice_line : ℕ → ℕ → ℕ → List ℕ → ℕ → List ℕ
slice_line time count blocks rows i = cond (leb count i) (sum_line time count blocks) (row_line_at time rows i)

-- ---- rows
rows_length : (time : ℕ) (rows : List ℕ) (i n : ℕ) → length (row_lines time rows i n) ≡ n
unfolding row_lines
rows_length time rows i zero = refl
rows_length time rows i (suc n) = ap suc (rows_length time rows (suc i) n)

rows_at : (time : ℕ) (rows : List ℕ) (i n j : ℕ) → j < n → get_or (row_lines time rows i n) j [] ≡ row_line_at time rows (i + j)
unfolding row_lines
rows_at time rows i zero j h = absurd (omega arith)
rows_at time rows i (suc n) zero h = let e : i ≡ i + 0 = omega arith in ap (row_line_at time rows) e
rows_at time rows i (suc n) (suc j) h =
    let e : suc i + j ≡ i + suc j = omega arith in
    rows_at time rows (suc i) n j (omega arith) ∙ ap (row_line_at time rows) e

-- THE COUNT OF LINES IS THAT OF THE DEFINITION.
pub said_count : (said : Told) (number : ℕ) (rows : List ℕ) → length (said_lines said number rows) ≡ line_count said
unfolding said_lines
said_count Nothing number rows = refl
said_count Bad number rows = refl
said_count (No time refusal) number rows = refl
said_count (Slice time count blocks) number rows = simp (length-append, rows_length time rows 0 count)

-- ---- the i-th line
pub past_last : (said : Told) (number : ℕ) (rows : List ℕ) (i : ℕ) → line_count said ≤ i → get_or (said_lines said number rows) i [] ≡ []
past_last said number rows i h = get_or-eq_default (said_lines said number rows) [] (omega (arith, said_count said number rows))

pub bad_first : (number : ℕ) (rows : List ℕ) (i : ℕ) → i < 1 → get_or (said_lines Bad number rows) i [] ≡ bad_line number
unfolding said_lines
bad_first number rows i h = let e : i ≡ 0 = omega arith in rw e

pub no_first : (time refusal number : ℕ) (rows : List ℕ) (i : ℕ) → i < 1 → get_or (said_lines (No time refusal) number rows) i [] ≡ no_line time refusal
unfolding said_lines
no_first time refusal number rows i h = let e : i ≡ 0 = omega arith in rw e

pub slice_at : (time count blocks number : ℕ) (rows : List ℕ) (i : ℕ) → i < count + 1
    → get_or (said_lines (Slice time count blocks) number rows) i [] ≡ slice_line time count blocks rows i
unfolding said_lines slice_line
slice_at time count blocks number rows i h = lt? i count
    (λ a. rw (lt-leb count i a) (get_or-append (row_lines time rows 0 count) (sum_line time count blocks ∷ []) [] i (omega (arith, rows_length time rows 0 count))
    ∙ rows_at time rows 0 count i a ∙ ap (row_line_at time rows) (first i)))
    (λ a. let e : i ≡ count = omega arith in
    rw (le-leb count i a) (get_or_at (row_lines time rows 0 count) (sum_line time count blocks) [] [] i (rows_length time rows 0 count ∙ sym e)))
  where
    first : (i : ℕ) → 0 + i ≡ i
    first i = omega arith

-- What is said, where it is known, has this i-th line.
module _ (said : Told) (number : ℕ) (rows : List ℕ) (i : ℕ) {n : ℕ} (e : n ≡ line_count said) where
  pub past_is : n ≤ i → get_or (said_lines said number rows) i [] ≡ []
  past_is h = past_last said number rows i (omega arith)

  pub bad_is : said ≡ Bad → i < n → get_or (said_lines said number rows) i [] ≡ bad_line number
  bad_is s h =
      let k : n ≡ 1 = e ∙ ap line_count s in
      rw s (bad_first number rows i (omega arith))

  pub no_is : {time refusal : ℕ} → said ≡ No time refusal → i < n → get_or (said_lines said number rows) i [] ≡ no_line time refusal
  no_is {time} {refusal} s h =
      let k : n ≡ 1 = e ∙ ap line_count s in
      rw s (no_first time refusal number rows i (omega arith))

  pub slice_is : {time count blocks : ℕ} → said ≡ Slice time count blocks → i < n
      → get_or (said_lines said number rows) i [] ≡ slice_line time count blocks rows i
  slice_is {time} {count} {blocks} s h =
      let k : n ≡ count + 1 = e ∙ ap line_count s in
      rw s (slice_at time count blocks number rows i (omega arith))

pub ruleset lines_of_said = (past_is, bad_is, no_is, slice_is)
