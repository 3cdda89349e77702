-- CROSSING A WINDOW (document 02, request 2): "each tag that stood at some second of the window, once, with the reading of its latest standing there, in
-- ascending tag order", on any words: its tests, its rows, and what it leaves in the buffer that it is lent.
use Rattle.std.specs.Prelude.{Bool, cond, ◌&&◌, ◌||◌, List, [], ◌∷◌, map, ℕ, ◌*◌, eqb, ltb, leb, length}
use Rattle.base.specs.Lists.{joined, those}
use Rattle.layout.specs.declared.head.Head.{Head}
use Rattle.layout.specs.Sizes.{row_len}
use Rattle.layout.specs.RefusalNumbers.{SHORT_BUFFER, UNSOUND}
use Rattle.layout.specs.Head.{head_of}
use Rattle.calls.specs.Calls.{Row, Numbers, QueryReply}
use Rattle.calls.specs.Refusals.{Test, any_of, store_tests}
use Rattle.calls.specs.LookBack.{row_words, written}
use Rattle.calls.specs.Range.{PlacedRecord, range_own, crossing, range_reply}

-- ---- "Latest is the greatest from, then the greatest place."
abbrev pub is_later : PlacedRecord → PlacedRecord → Bool
is_later x y = ltb y.from x.from || (eqb y.from x.from && ltb y.place x.place)

-- of a record and those that follow it
abbrev pub latest_from : PlacedRecord → List PlacedRecord → PlacedRecord
latest_from x [] = x
latest_from x (y ∷ l) = latest_from (cond (is_later y x) y x) l

-- none of no records, else the one that is latest
abbrev pub latest : List PlacedRecord → List PlacedRecord
latest [] = []
latest (x ∷ l) = latest_from x l ∷ []

-- ---- the rows: of each tag below D, in ascending order, that of its latest record, if it has any
abbrev pub of_tag : ℕ → List PlacedRecord → List PlacedRecord
of_tag tag l = those (λ r. eqb r.tag tag) l

abbrev pub shown_row : PlacedRecord → Row
shown_row r = record { tag = r.tag; payload = r.payload }

unfoldable pub window_rows : List PlacedRecord → ℕ → List Row
window_rows l tags = joined (λ tag. map shown_row (latest (of_tag tag l))) tags

-- ---- "refusal 12 here means a record in them that stood in the window and has a tag of D or more"
unfoldable pub unknown_tag : ℕ → List PlacedRecord → Bool
unknown_tag tags l = any_of (λ r. leb tags r.tag) l

-- with a buffer of so many words; the last test is the records'
abbrev pub window_own : Head → ℕ → ℕ → ℕ → Bool → List Test
window_own h first last rows unsound =
    range_own h first last (record { number = SHORT_BUFFER; applies = ltb rows (row_len * h.settings.tags) }
    ∷ record { number = UNSOUND; applies = unsound } ∷ [])

abbrev pub window_tests : List ℕ → ℕ → ℕ → ℕ → List Test
window_tests ws first last rows =
    let h = head_of ws in
    store_tests ws (window_own h first last rows (unknown_tag h.settings.tags (crossing first last ws)))

-- "the answer is their number"; the words after the rows keep their contents
unfoldable pub window : List ℕ → ℕ → ℕ → List ℕ → QueryReply
window ws first last rows =
    let given = window_rows (crossing first last ws) (head_of ws).settings.tags in
    range_reply (window_tests ws first last (length rows)) (Numbers (length given ∷ [])) (written (row_words given) rows ∷ []) (rows ∷ [])
