-- WHAT A WINDOW ANSWERS IN CODE, and the words that it leaves: those of the definition (calls, `window`), on any words and any buffer.
use Rattle.std.specs.Prelude.{◌≡◌, Bool, true, false, List, [], ◌∷◌, ℕ, ◌*◌, ◌≤◌, length, Result, Ok, Err}
use Rattle.layout.specs.Sizes.{row_len}
use Rattle.layout.specs.declared.refusal.Refusal.{Refusal}
use Rattle.layout.specs.declared.refusal.Refusal.TheVariants as refusal
use Rattle.layout.specs.RefusalNumbers.{number}
use Rattle.layout.specs.Head.{head_of}
use Rattle.calls.specs.Calls.{Row, Answer, Numbers, Refused}
use Rattle.calls.specs.LookBack.{row_words, written, zeros}
use Rattle.calls.specs.Range.{crossing}
use Rattle.calls.specs.Window.{window_rows, unknown_tag, window_own, window}
use Rattle.queries.specs.Own.{OwnRefusal}
use Rattle.window.specs.declared.span.Span.{Span}

-- how many rows there are, or the refusal by its number
abbrev pub answer_of : Result ℕ Refusal → Answer
answer_of (Ok n) = Numbers (n ∷ [])
answer_of (Err e) = Refused (number e)

-- The contract: the answer, and the buffer as the call leaves it. (The store is lent to be read only.)
pub record Windowed (ws : List ℕ) (first last : ℕ) (rows : List ℕ) (r : Result ℕ Refusal) (rows' : List ℕ) : Type 0 where
  pub answer : answer_of r ≡ (window ws first last rows).answer
  pub words : rows' ∷ [] ≡ (window ws first last rows).lent

-- ---- the parts
-- the rows of a store, and refusal 12
abbrev pub rows_of : List ℕ → ℕ → ℕ → List Row
rows_of ws first last = window_rows (crossing first last ws) (head_of ws).settings.tags

abbrev pub reads_unknown : List ℕ → ℕ → ℕ → Bool
reads_unknown ws first last = unknown_tag (head_of ws).settings.tags (crossing first last ws)

-- a window to which no refusal but 12 applies
pub data Answers (w : Span) (rows : List ℕ) : Result ℕ Refusal → List ℕ → Type 0 where
  answered : {n : ℕ} {rows' : List ℕ} → reads_unknown w.opened.store.now w.first w.last ≡ false → n ≡ length (rows_of w.opened.store.now w.first w.last)
      → rows' ≡ written (row_words (rows_of w.opened.store.now w.first w.last)) rows → Answers w rows (Ok n) rows'
  unknown : {rows' : List ℕ} → reads_unknown w.opened.store.now w.first w.last ≡ true → rows' ≡ zeros rows → Answers w rows (Err refusal.Unsound) rows'

-- what its own tests come to before any record is read, for a buffer of this length: the first of 5, 14, 7 and 11 that applies; or the buffer is long
-- enough
pub record WindowRefusal (w : Span) (rows : ℕ) (r : Result Unit Refusal) : Type 0 where
  pub own : OwnRefusal (λ unsound. window_own w.opened.head w.first w.last rows unsound) (row_len * w.opened.head.settings.tags ≤ rows) r
