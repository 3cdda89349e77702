-- WHAT THE SEARCH ANSWERS: the block that starts the path, the pages read, and on each level the page passed.
use Rattle.std.specs.Prelude.{cond, List, [], ◌∷◌, ℕ, zero, suc, ◌+◌, ◌*◌, ◌<◌, eqb, length, set, Option, None, Some, Result, Ok, Err}
use Rattle.layout.specs.Sizes.{OPEN, page_len}
use Rattle.calls.specs.Walk.{Finding, unsound, found, Pass, entries, look_up, descend, search}
use Rattle.calls.specs.LookBack.{passed_on}
use Rattle.queries.specs.declared.unsound.Unsound.{Unsound}
use Rattle.timeslice.specs.declared.past.Past.{Past}
use Rattle.timeslice.specs.declared.index.PathStart.{PathStart}
use Rattle.timeslice.specs.Reading.{reader_of}

-- a page passed, of which the definition has OPEN if there is none
abbrev pub page_told : ℕ → Option ℕ
page_told n = cond (eqb n OPEN) None (Some n)

-- the page passed on each of the three levels
abbrev pub pages_of : List Pass → List (Option ℕ)
pages_of ps = page_told (passed_on 0 ps) ∷ page_told (passed_on 1 ps) ∷ page_told (passed_on 2 ps) ∷ []

-- the block that starts the path, of which the definition has 0 if there is none
abbrev pub block_told : ℕ → Option ℕ
block_told zero = None
block_told (suc k) = Some (suc k)

abbrev pub path_start : Option ℕ → List Pass → PathStart
path_start b ps = record { block = b; read = length ps; pages = pages_of ps }

abbrev pub searched_of : Finding ℕ (List Pass) → Result PathStart Unsound
searched_of unsound = Err (record {})
searched_of (found n ps) = Ok (path_start (block_told n) ps)

-- one page more, passed before the others
abbrev pub pass_over : ℕ → ℕ → PathStart → PathStart
pass_over l e s = record { block = s.block; read = s.read + 1; pages = set s.pages l (Some e) }

-- an entry of a page, of which the definition has 1 + its number, or 0 if there is none
abbrev pub entry_of : ℕ → Option ℕ
entry_of zero = None
entry_of (suc k) = Some k

-- ---- the parts of the search, over what a look-back reads
module _ (p : Past) where
  abbrev pub looked_up : ℕ → ℕ → Option ℕ
  looked_up l e = entry_of (look_up p.second p.opened.head.cursor.opened (reader_of p) l e)

  abbrev pub descended : ℕ → ℕ → Result PathStart Unsound
  descended l e = searched_of (descend p.second p.opened.head.cursor.opened (reader_of p) l e)

  abbrev pub searched : Result PathStart Unsound
  searched = searched_of (search p.second p.opened.head.cursor.opened (reader_of p))

-- ---- what is asked
-- page e of one of the three levels has an entry
pub record OnPage (p : Past) (l e : ℕ) : Type 0 where
  pub three : l < 3
  pub some : page_len * e < entries p.opened.head.cursor.opened l

-- one of the three levels has entry e
pub record OnEntry (p : Past) (l e : ℕ) : Type 0 where
  pub three : l < 3
  pub entry : e < entries p.opened.head.cursor.opened l
