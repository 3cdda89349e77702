-- THE LOOK-BACK (document 01): the walk over the store's parts, its answer, and what it leaves in the two buffers that it is lent.
use Rattle.std.specs.Prelude.{Bool, true, false, cond, ◌||◌, List, [], ◌∷◌, ◌++◌, ℕ, eqb, length, drop, replicate}
use Rattle.layout.specs.Sizes.{OPEN}
use Rattle.layout.specs.RefusalNumbers.{UNSOUND}
use Rattle.layout.specs.Head.{head_of}
use Rattle.layout.specs.Payload.{payload_words}
use Rattle.layout.specs.Parts.{block_part, level_part, page_part}
use Rattle.calls.specs.Calls.{Row, View, Answer, Shown, Refused}
use Rattle.calls.specs.Walk.{Reader, Pass, Looked, unsoundly, looked, look}
use Rattle.calls.specs.Refusals.{refusal, look_back_tests}

unfoldable pub reader : List ℕ → Reader
reader ws = record {
  root = (head_of ws).cursor.child;
  block = block_part (head_of ws).settings ws;
  page = λ l e. page_part (level_part ws l) e;
}

unfoldable pub look_at : List ℕ → ℕ → Looked
look_at ws t = let h = head_of ws in look h.settings.block h.settings.tags h.cursor.opened t (reader ws)

-- the page passed on level l, OPEN if none
abbrev pub passed_on : ℕ → List Pass → ℕ
passed_on l [] = OPEN
passed_on l (p ∷ ps) = cond (eqb p.level l) p.number (passed_on l ps)

abbrev pub view_of : List Row → List ℕ → List Pass → View
view_of rows list passes = record {
  rows = rows;
  list = list;
  pages = passed_on 0 passes ∷ passed_on 1 passes ∷ passed_on 2 passes ∷ [];
  counts = record { rows = length rows; pages = length passes; blocks = length list };
}

-- rows as words: the tag, then what is told
abbrev pub row_words : List Row → List ℕ
row_words [] = []
row_words (r ∷ l) = r.tag ∷ (payload_words r.payload ++ row_words l)

-- words at the start of a buffer; those after them keep their contents
abbrev pub written : List ℕ → List ℕ → List ℕ
written words buffer = words ++ drop (length words) buffer

abbrev pub zeros : List ℕ → List ℕ
zeros buffer = replicate (length buffer) 0

abbrev pub is_unsound : Looked → Bool
is_unsound unsoundly = true
is_unsound (looked r l ps) = false

-- the answer, and the two buffers after it
pub record SliceReply : Type 0 where
  pub answer : Answer
  pub rows : List ℕ
  pub list : List ℕ

-- what the walk found, in the buffers; where it is unsound, refusal 12 fills both with zeros
abbrev pub seen : List ℕ → List ℕ → Looked → SliceReply
seen rows list unsoundly = record { answer = Refused UNSOUND; rows = zeros rows; list = zeros list }
seen rows list (looked r l ps) = record { answer = Shown (view_of r l ps); rows = written (row_words r) rows; list = written l list }

unfoldable pub look_back : List ℕ → ℕ → List ℕ → List ℕ → SliceReply
look_back ws t rows list =
    let walked = look_at ws t in
    let n = refusal (look_back_tests ws t (length rows) (length list) (is_unsound walked)) in
    cond (eqb n 0 || eqb n UNSOUND) (seen rows list walked) (record { answer = Refused n; rows = rows; list = list })
