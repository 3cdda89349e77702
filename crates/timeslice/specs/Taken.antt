-- ROWS TAKEN into the row buffer, behind those already given.
use Rattle.std.specs.Prelude.{◌≡◌, List, ℕ, ◌+◌, ◌*◌, ◌≤◌, ◌<◌, length, Result, Ok, Err}
use Rattle.std.proofs.lemmas.List.Edits.{sets}
use Rattle.layout.specs.Sizes.{row_len}
use Rattle.calls.specs.Calls.{Row}
use Rattle.calls.specs.LookBack.{row_words}
use Rattle.queries.specs.declared.unsound.Unsound.{Unsound}
use Rattle.timeslice.specs.declared.past.Past.{Past}

-- Rows r are taken behind `given` rows: all of them stand in the buffer and are counted, or with them there are more than d.
pub data Takes (d : ℕ) (buffer : List ℕ) (given : ℕ) (r : List Row) : Result ℕ Unsound → List ℕ → Type 0 where
  all : {now : ℕ} {after : List ℕ} → now ≡ given + length r → now ≤ d → after ≡ sets buffer (row_len * given) (row_words r)
      → Takes d buffer given r (Ok now) after
  many : {e : Unsound} {after : List ℕ} → d < given + length r → Takes d buffer given r (Err e) after

-- what the row taker asks: a buffer with room for D rows, of which at most that many are given
pub record RowBuffer (p : Past) (given : ℕ) (rows : List ℕ) : Type 0 where
  pub fits : given ≤ p.opened.head.settings.tags
  pub long : row_len * p.opened.head.settings.tags ≤ length rows
