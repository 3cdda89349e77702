-- THE LATEST RECORD OF EACH TAG, kept by its place in an array: what the array says of the records met so far, in the order of their places.
use Rattle.std.specs.Prelude.{◌≡◌, false, true, cond, List, [], ◌∷◌, ◌++◌, ℕ, ◌+◌, ◌*◌, ◌-◌, ◌≤◌, ◌<◌, eqb, leb, length, get_or, Result, Ok, Err}
use Rattle.std.proofs.lemmas.List.Edits.{sets}
use Rattle.base.specs.Lists.{joined, those}
use Rattle.base.specs.Sums.{All}
use Rattle.base.specs.Table.{table}
use Rattle.layout.specs.declared.settings.Settings.{Settings}
use Rattle.layout.specs.Sizes.{row_len}
use Rattle.layout.specs.Address.{Numbered}
use Rattle.layout.specs.Places.{block_of, slot_of}
use Rattle.calls.specs.Calls.{Row}
use Rattle.calls.specs.Walk.{Reader}
use Rattle.calls.specs.LookBack.{row_words, reader}
use Rattle.calls.specs.Range.{PlacedRecord, record_in, read_records, stood_in, crossing}
use Rattle.calls.specs.Window.{latest, of_tag, shown_row, unknown_tag}
use Rattle.queries.specs.declared.unsound.Unsound.{Unsound}
use Rattle.window.specs.declared.span.Span.{Span}

-- what a window reads, in the words of its definition: the reader that the store is
abbrev pub reader_of : Span → Reader
reader_of w = reader w.opened.store.now

-- ---- the records met
-- all records of the blocks before n that are read, and the first k of block n, which is read
unfoldable pub records_to : ℕ → ℕ → Settings → Reader → ℕ → ℕ → List PlacedRecord
records_to first last s R n k = read_records first last s R (n - 1) ++ joined (λ j. record_in s n (R.block n) j ∷ []) k

abbrev pub stood : ℕ → ℕ → List PlacedRecord → List PlacedRecord
stood first last l = those (stood_in first last) l

-- the record that a place names
unfoldable pub record_at : Settings → Reader → ℕ → PlacedRecord
record_at s R p = record_in s (block_of s p) (R.block (block_of s p)) (slot_of s p)

-- a record with a place up to `most`, which names it
pub record Met (s : Settings) (R : Reader) (most : ℕ) (r : PlacedRecord) : Type 0 where
  pub low : 1 ≤ r.place
  pub high : r.place ≤ most
  pub numbered : Numbered s (block_of s r.place)
  pub is : record_at s R r.place ≡ r

-- ---- the array
-- the place of a record, 0 if there is none
abbrev pub place_in : List PlacedRecord → ℕ
place_in [] = 0
place_in (r ∷ l) = r.place

unfoldable pub latest_place : List PlacedRecord → ℕ → ℕ
latest_place l tag = place_in (latest (of_tag tag l))

-- the array has the latest of each tag among the records l, which have no place above `most` and no tag of D or more
pub record Noted (s : Settings) (R : Reader) (l : List PlacedRecord) (most : ℕ) (best : List ℕ) : Type 0 where
  pub is : best ≡ table 4096 (latest_place l)
  pub met : All (Met s R most) l
  pub known : unknown_tag s.tags l ≡ false

-- what noting them answers: so it is, or one of them has a tag of D or more
pub data Notes (s : Settings) (R : Reader) (l : List PlacedRecord) (most : ℕ) : Result (Unit {0}) Unsound → List ℕ → Type 0 where
  noted : {best : List ℕ} → Noted s R l most best → Notes s R l most (Ok tt) best
  unknown : {e : Unsound} {best : List ℕ} → unknown_tag s.tags l ≡ true → Notes s R l most (Err e) best

-- the same of the records in the first m blocks,
module _ (w : Span) where
  abbrev pub blocks_stood : ℕ → List PlacedRecord
  blocks_stood m = stood w.first w.last (read_records w.first w.last w.opened.head.settings (reader_of w) m)

  abbrev pub NotedBlocks : ℕ → List ℕ → Type 0
  NotedBlocks m best = Noted w.opened.head.settings (reader_of w) (blocks_stood m) (m * w.opened.head.settings.block) best

  abbrev pub NotesBlocks : ℕ → Result (Unit {0}) Unsound → List ℕ → Type 0
  NotesBlocks m answer best = Notes w.opened.head.settings (reader_of w) (blocks_stood m) (m * w.opened.head.settings.block) answer best

  -- of those before block n with its first k slots,
  abbrev pub slots_stood : ℕ → ℕ → List PlacedRecord
  slots_stood n k = stood w.first w.last (records_to w.first w.last w.opened.head.settings (reader_of w) n k)

  abbrev pub NotedTo : ℕ → ℕ → List ℕ → Type 0
  NotedTo n k best = Noted w.opened.head.settings (reader_of w) (slots_stood n k) ((n - 1) * w.opened.head.settings.block + k) best

  abbrev pub NotesTo : ℕ → ℕ → Result (Unit {0}) Unsound → List ℕ → Type 0
  NotesTo n k answer best = Notes w.opened.head.settings (reader_of w) (slots_stood n k) ((n - 1) * w.opened.head.settings.block + k) answer best

  -- and of all that the window reads
  abbrev pub NotesAll : Result (Unit {0}) Unsound → List ℕ → Type 0
  NotesAll answer best =
      Notes w.opened.head.settings (reader_of w) (crossing w.first w.last w.opened.store.now) (w.opened.head.cursor.opened * w.opened.head.settings.block) answer best

-- a place that is 0 or names a record of the store; all those of an array are
pub record Named (s : Settings) (p : ℕ) : Type 0 where
  pub block : 1 ≤ p → Numbered s (block_of s p)

pub record AllNamed (s : Settings) (best : List ℕ) : Type 0 where
  pub each : (tag : ℕ) → tag < 4096 → Named s (get_or best tag 0)

-- the later of the record at p, if there is one, and one of a greater place that stands from `from` on
unfoldable pub later_place : Settings → Reader → ℕ → ℕ → ℕ → ℕ
later_place s R p place from = cond (eqb p 0) place (cond (leb (record_at s R p).from from) place p)

-- ---- rows put into the buffer
-- the row of the record at p, if there is one
unfoldable pub row_at : Settings → Reader → ℕ → List Row
row_at s R p = cond (eqb p 0) [] (shown_row (record_at s R p) ∷ [])

-- rows r behind `given` rows: now there are n
pub record Puts (before : List ℕ) (given : ℕ) (r : List Row) (n : ℕ) (after : List ℕ) : Type 0 where
  pub counts : n ≡ given + length r
  pub most : n ≤ given + 1
  pub words : after ≡ sets before (row_len * given) (row_words r)

-- the rows of the tags below `tags`, as the array names their records
unfoldable pub best_rows : Settings → Reader → List ℕ → ℕ → List Row
best_rows s R best tags = joined (λ tag. row_at s R (get_or best tag 0)) tags

-- they stand in the buffer
pub record Rowed (w : Span) (best : List ℕ) (tags : ℕ) (before : List ℕ) (n : ℕ) (after : List ℕ) : Type 0 where
  pub counts : n ≡ length (best_rows w.opened.head.settings (reader_of w) best tags)
  pub most : n ≤ tags
  pub words : after ≡ sets before 0 (row_words (best_rows w.opened.head.settings (reader_of w) best tags))

-- the buffer has room for a row of each tag: refusal 11 does not apply
pub record LongRows (w : Span) (rows : List ℕ) : Type 0 where
  pub long : row_len * w.opened.head.settings.tags ≤ length rows
