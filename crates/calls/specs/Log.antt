-- THE PLAIN LOG: the accepted changes in order, and the state that it tells for a second.
use Rattle.std.specs.Prelude.{◌≡◌, Bool, false, cond, ◌||◌, ℕ, ◌≤◌, ◌<◌, eqb, leb}
use mathlib.Core.List.{List, [], ◌∷◌, ◌++◌, Memᴰ}
use Rattle.layout.specs.declared.payload.Payload.{Payload}
use Rattle.layout.specs.Payload.{new_payload}
use Rattle.calls.specs.Calls.{Call, Start, Set, Clear, Update, Advance, Ask, Row}

-- the accepted changes, the first of them first
abbrev pub Log : Type 0
Log = List Call

-- the rows of all tags but this
abbrev pub without : ℕ → List Row → List Row
without tag [] = []
without tag (r ∷ l) = cond (eqb r.tag tag) (without tag l) (r ∷ without tag l)

abbrev pub and_row : ℕ → Payload → List Row → List Row
and_row tag payload rows = rows ++ (record { tag = tag; payload = payload } ∷ [])

-- a change tells of the seconds from its own on
abbrev pub tells : ℕ → List Row → Call → List Row
tells t rows (Set s tag reading) = cond (leb s t) (and_row tag (new_payload reading s) rows) rows
tells t rows (Clear s tag) = cond (leb s t) (without tag rows) rows
tells t rows (Update s tag reading) = cond (leb s t) (and_row tag (new_payload reading s) (without tag rows)) rows
tells t rows (Start s) = rows
tells t rows (Advance s) = rows
tells t rows (Ask q) = rows

-- what stands at t
abbrev pub state_from : ℕ → List Row → Log → List Row
state_from t rows [] = rows
state_from t rows (c ∷ l) = state_from t (tells t rows c) l

abbrev pub state_at : Log → ℕ → List Row
state_at log t = state_from t [] log

-- ---- the state so far: what all changes of the log, whatever their seconds, leave standing
abbrev pub makes : List Row → Call → List Row
makes rows (Set s tag reading) = and_row tag (new_payload reading s) rows
makes rows (Clear s tag) = without tag rows
makes rows (Update s tag reading) = and_row tag (new_payload reading s) (without tag rows)
makes rows (Start s) = rows
makes rows (Advance s) = rows
makes rows (Ask q) = rows

abbrev pub made_from : List Row → Log → List Row
made_from rows [] = rows
made_from rows (c ∷ l) = made_from (makes rows c) l

abbrev pub so_far : Log → List Row
so_far log = made_from [] log

-- a tag has a row
abbrev pub among : ℕ → List Row → Bool
among tag [] = false
among tag (r ∷ l) = eqb r.tag tag || among tag l

-- ---- what the log tells of a window from a first to a last second, both included (document 02, request 2): the row of a tag that stood at some second of
-- it, as it was at the last such second
pub record StoodLast (log : Log) (first last : ℕ) (r : Row) : Type 0 where
  pub at : ℕ
  pub inside : (first ≤ at) × (at ≤ last)
  pub stands : Memᴰ r (state_at log at)
  pub latest : (t : ℕ) → at < t → t ≤ last → among r.tag (state_at log t) ≡ false
