-- WHAT LISTING A VISIT SAYS: the numbers of its blocks stand in the list, behind those listed before; and the rows that follow from a list.
use Rattle.std.specs.Prelude.{◌≡◌, cond, List, [], ◌∷◌, ◌++◌, ℕ, ◌+◌, ◌-◌, ◌≤◌, ◌<◌, leb, length, Result, Ok, Err}
use Rattle.std.proofs.lemmas.List.Edits.{sets}
use Rattle.layout.specs.Fields.{closed_word, left_word, child_word}
use Rattle.layout.specs.Parts.{block_word}
use Rattle.calls.specs.Calls.{Row}
use Rattle.calls.specs.Walk.{Reader, Walk, unsound, found, and_then, rows_of, visit}
use Rattle.queries.specs.declared.unsound.Unsound.{Unsound}
use Rattle.timeslice.specs.declared.past.Past.{Past}
use Rattle.timeslice.specs.Reading.{reader_of}

-- the rows of a listed block: none if it closed by t
unfoldable pub rows_at : ℕ → ℕ → Reader → ℕ → List Row
rows_at b t R n = cond (leb (block_word (R.block n) closed_word) t) [] (rows_of b t (R.block n))

-- those of all blocks of a list
unfoldable pub rows_in : ℕ → ℕ → Reader → List ℕ → List Row
rows_in b t R [] = []
rows_in b t R (n ∷ l) = rows_at b t R n ++ rows_in b t R l

-- A walk's blocks are listed behind n others, and m counts them too; or the walk is unsound.
pub data Listed (list : List ℕ) (n : ℕ) : Walk → Result ℕ Unsound → List ℕ → Type 0 where
  every : {r : List Row} {l : List ℕ} {m : ℕ} {list' : List ℕ} → m ≡ n + length l → list' ≡ sets list n l → Listed list n (found r l) (Ok m) list'
  none : {e : Unsound} {list' : List ℕ} → Listed list n unsound (Err e) list'

-- A visit, with any fuel that is enough.
pub record VisitListed (p : Past) (lower upper number : ℕ) (list : List ℕ) (n : ℕ) (a : Result ℕ Unsound) (list' : List ℕ) : Type 0 where
  pub told : (f : ℕ) → upper - lower < f → Listed list n (visit p.opened.head.settings.block p.second (reader_of p) f lower upper number) a list'

-- The two visits inside a listed block, of its last child and of its left.
abbrev pub inside : Past → ℕ → ℕ → ℕ → ℕ → Walk
inside p f lower upper n =
    let block = (reader_of p).block n in
    and_then (visit p.opened.head.settings.block p.second (reader_of p) f n upper (block_word block child_word))
    (visit p.opened.head.settings.block p.second (reader_of p) f lower n (block_word block left_word))

pub record InsideListed (p : Past) (lower upper number : ℕ) (list : List ℕ) (n : ℕ) (a : Result ℕ Unsound) (list' : List ℕ) : Type 0 where
  pub told : (f : ℕ) → upper - lower ≤ f → Listed list n (inside p f lower upper number) a list'

-- ---- what is asked
-- room to list a visit between two numbers
pub record ListRoom (p : Past) (lower upper n : ℕ) (list : List ℕ) : Type 0 where
  pub long : p.opened.head.settings.blocks ≤ length list
  pub gap : lower < upper
  pub known : upper ≤ p.opened.head.settings.blocks + 1
  pub blocks : n + upper ≤ p.opened.head.settings.blocks + 1 + lower

-- room to list the visits inside a block, which is the last that is listed
pub record InsideRoom (p : Past) (lower upper number n : ℕ) (list : List ℕ) : Type 0 where
  pub long : p.opened.head.settings.blocks ≤ length list
  pub low : lower < number
  pub high : number < upper
  pub known : upper ≤ p.opened.head.settings.blocks + 1
  pub blocks : n + upper ≤ p.opened.head.settings.blocks + 2 + lower
