-- WHAT THE CODE'S ANSWER SAYS OF A WALK: its rows and its list stand in the two buffers, behind what was counted before.
-- (`rows` and `list` are the buffers as they were lent, `rows'` and `list'` as they come back.)
use Rattle.std.specs.Prelude.{◌≡◌, List, [], ◌∷◌, ℕ, ◌+◌, ◌*◌, ◌-◌, ◌≤◌, ◌<◌, length, Result, Ok, Err}
use Rattle.std.proofs.lemmas.List.Edits.{sets}
use Rattle.layout.specs.Sizes.{row_len}
use Rattle.layout.specs.Address.{Numbered}
use Rattle.layout.specs.Fields.{up_word}
use Rattle.layout.specs.Parts.{block_word}
use Rattle.calls.specs.Calls.{Row}
use Rattle.calls.specs.Walk.{Walk, unsound, found, rows_of, neighbour, visit, path}
use Rattle.calls.specs.LookBack.{row_words}
use Rattle.queries.specs.declared.unsound.Unsound.{Unsound}
use Rattle.timeslice.specs.declared.Counts.{Counts}
use Rattle.timeslice.specs.declared.past.Past.{Past}
use Rattle.timeslice.specs.declared.walk.PathBlock.{PathBlock}
use Rattle.timeslice.specs.Reading.{reader_of}

-- rows r and list l stand in the buffers behind n's, m counts them too, and there are at most d rows
pub record Filled (d : ℕ) (rows list : List ℕ) (n : Counts) (r : List Row) (l : List ℕ) (m : Counts) (rows' list' : List ℕ) : Type 0 where
  pub given : m.rows ≡ n.rows + length r
  pub pages : m.pages ≡ n.pages
  pub blocks : m.blocks ≡ n.blocks + length l
  pub fits : m.rows ≤ d
  pub row_words_lem : rows' ≡ sets rows (row_len * n.rows) (row_words r)
  pub list_words : list' ≡ sets list n.blocks l

-- A walk is told, behind n: what it finds is filled in; or it is unsound; or with its rows there are more than d.
pub data WalkTold (d : ℕ) (rows list : List ℕ) (n : Counts) : Walk → Result Counts Unsound → List ℕ → List ℕ → Type 0 where
  done : {r : List Row} {l : List ℕ} {m : Counts} {rows' list' : List ℕ} → Filled d rows list n r l m rows' list'
      → WalkTold d rows list n (found r l) (Ok m) rows' list'
  over : {r : List Row} {l : List ℕ} {e : Unsound} {rows' list' : List ℕ} → d < n.rows + length r → WalkTold d rows list n (found r l) (Err e) rows' list'
  bad : {e : Unsound} {rows' list' : List ℕ} → WalkTold d rows list n unsound (Err e) rows' list'

-- A visit and a path, with any fuel that is enough.
pub record VisitTold (p : Past) (lower upper number : ℕ) (rows list : List ℕ) (n : Counts) (a : Result Counts Unsound) (rows' list' : List ℕ)
    : Type 0 where
  pub told : (f : ℕ) → upper - lower < f
      → WalkTold p.opened.head.settings.tags rows list n (visit p.opened.head.settings.block p.second (reader_of p) f lower upper number) a rows' list'

pub record PathTold (p : Past) (number : ℕ) (rows list : List ℕ) (n : Counts) (a : Result Counts Unsound) (rows' list' : List ℕ) : Type 0 where
  pub told : (f : ℕ) → number < f → WalkTold p.opened.head.settings.tags rows list n (path p.opened.head.settings.block p.second (reader_of p) f number) a rows' list'

-- ---- the parts of a path
-- a block with its rows
abbrev pub block_walk : Past → ℕ → Walk
block_walk p number = found (rows_of p.opened.head.settings.block p.second ((reader_of p).block number)) (number ∷ [])

-- the up of a block, as the store hands it out
abbrev pub up_of : Past → ℕ → ℕ
up_of p n = block_word ((reader_of p).block n) up_word

-- a path block: its up is below it, it is listed, its rows are taken, and its left neighbour is next
pub data Climbs (p : Past) (rows list : List ℕ) (n : Counts) (number : ℕ) : Result PathBlock Unsound → List ℕ → List ℕ → Type 0 where
  on : {i : PathBlock} {rows' list' : List ℕ} → up_of p number < number → i.up ≡ up_of p number → i.next ≡ neighbour (reader_of p) number
      → WalkTold p.opened.head.settings.tags rows list n (block_walk p number) (Ok i.counts) rows' list' → Climbs p rows list n number (Ok i) rows' list'
  above : {e : Unsound} {rows' list' : List ℕ} → number ≤ up_of p number → Climbs p rows list n number (Err e) rows' list'
  full : {e : Unsound} {rows' list' : List ℕ} → up_of p number < number
      → WalkTold p.opened.head.settings.tags rows list n (block_walk p number) (Err e) rows' list' → Climbs p rows list n number (Err e) rows' list'

-- ---- what is asked
-- both buffers are long enough: refusal 11 does not apply
pub record Buffers (p : Past) (rows list : List ℕ) : Type 0 where
  pub long_rows : row_len * p.opened.head.settings.tags ≤ length rows
  pub long_list : p.opened.head.settings.blocks ≤ length list

-- room for one block more
pub record Space (p : Past) (n : Counts) (rows list : List ℕ) : Type 0 where
  pub buffers : Buffers p rows list
  pub fits : n.rows ≤ p.opened.head.settings.tags
  pub block : n.blocks < p.opened.head.settings.blocks

-- room for a visit between two numbers: it lists fewer blocks than their gap
pub record Gap (p : Past) (lower upper : ℕ) (n : Counts) (rows list : List ℕ) : Type 0 where
  pub buffers : Buffers p rows list
  pub fits : n.rows ≤ p.opened.head.settings.tags
  pub gap : lower < upper
  pub known : upper ≤ p.opened.head.settings.blocks + 1
  pub blocks : n.blocks + upper ≤ p.opened.head.settings.blocks + 1 + lower

-- room for a path from a block: it lists no more blocks than its number
pub record Reach (p : Past) (number : ℕ) (n : Counts) (rows list : List ℕ) : Type 0 where
  pub buffers : Buffers p rows list
  pub fits : n.rows ≤ p.opened.head.settings.tags
  pub known : number ≤ p.opened.head.settings.blocks
  pub blocks : n.blocks + number ≤ p.opened.head.settings.blocks

-- a block of the store whose up lies below it
pub record Under (p : Past) (number : ℕ) : Type 0 where
  pub numbered : Numbered p.opened.head.settings number
  pub below : up_of p number < number
