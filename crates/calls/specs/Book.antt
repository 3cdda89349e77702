-- THE BLOCK BOOK (document 01): a plain account of the blocks, fed each call's arguments and whether it was accepted, and nothing from the store.
use Rattle.std.specs.Prelude.{Bool, true, false, cond, not, ◌&&◌, ◌||◌, List, [], ◌∷◌, ◌++◌, ℕ, zero, suc, ◌+◌, ◌-◌, eqb, ltb, leb, length}
use Rattle.layout.specs.declared.settings.Settings.{Settings}
use Rattle.layout.specs.Sizes.{OPEN}

-- a record: its tag, standing or ended
pub record Entry : Type 0 where
  pub tag : ℕ
  pub stands : Bool

-- a block: its opening second, its closing second (OPEN for none), its records in order
pub record Block : Type 0 where
  pub opened : ℕ
  pub closed : ℕ
  pub entries : List Entry

-- b, q and the blocks in order
pub record Book : Type 0 where
  pub b : ℕ
  pub q : ℕ
  pub blocks : List Block

-- an accepted start makes an empty book with its b and q
abbrev pub empty_book : Settings → Book
empty_book s = record { b = s.block; q = s.useful; blocks = [] }

-- ---- the tags of the records that stand, in order
abbrev pub standing_tags : List Entry → List ℕ
standing_tags [] = []
standing_tags (e ∷ l) = cond e.stands (e.tag ∷ standing_tags l) (standing_tags l)

abbrev pub ended : List Entry → List Entry
ended [] = []
ended (e ∷ l) = record { tag = e.tag; stands = false } ∷ ended l

-- ---- the steps on a list of blocks
-- a block opens at s as the last
abbrev pub opens_at : ℕ → List Block → List Block
opens_at s blocks = blocks ++ (record { opened = s; closed = OPEN; entries = [] } ∷ [])

-- block i, counted from 0, as f makes it
abbrev pub on_block : ℕ → (Block → Block) → List Block → List Block
on_block i f [] = []
on_block zero f (k ∷ l) = f k ∷ l
on_block (suc i) f (k ∷ l) = k ∷ on_block i f l

abbrev pub entries_of : ℕ → List Block → List Entry
entries_of i [] = []
entries_of zero (k ∷ l) = k.entries
entries_of (suc i) (k ∷ l) = entries_of i l

-- it closes at s, and all its records end
abbrev pub closes_at : ℕ → Block → Block
closes_at s k = record { opened = k.opened; closed = s; entries = ended k.entries }

-- the number of the last block, counted from 0
abbrev pub last_of : List Block → ℕ
last_of blocks = length blocks - 1

-- the tag goes, standing, to the end of the last block
abbrev pub appends : ℕ → List Block → List Block
appends tag blocks =
    on_block (last_of blocks)
    (λ k. record { opened = k.opened; closed = k.closed; entries = k.entries ++ (record { tag = tag; stands = true } ∷ []) })
    blocks

abbrev pub in_order : (ℕ → List Block → List Block) → List ℕ → List Block → List Block
in_order write [] blocks = blocks
in_order write (tag ∷ l) blocks = in_order write l (write tag blocks)

-- Judge: if fewer than q of the block's records stand, it closes at s, all of these end, and their tags are written in order.
abbrev pub judges : (ℕ → List Block → List Block) → ℕ → ℕ → ℕ → List Block → List Block
judges write q s i blocks =
    let tags = standing_tags (entries_of i blocks) in
    cond (ltb (length tags) q) (in_order write tags (on_block i (closes_at s) blocks)) blocks

-- Write: if there is no block or the last has b records, a block opens at s as the last, and the former last, if any, is judged; then the tag
-- goes, standing, to the end of the last block. Write and judge call each other; here each write within a judging is one layer down. With
-- 2q ≤ b two layers are all that is ever met: the copies of a former last block find room in the new one.
unfoldable pub writes : ℕ → ℕ → ℕ → ℕ → ℕ → List Block → List Block
writes zero b q s tag blocks = appends tag blocks
writes (suc layers) b q s tag blocks =
    let new = opens_at s blocks in
    appends tag
    (cond (eqb (length blocks) 0) new
    (cond (eqb (length (entries_of (last_of blocks) blocks)) b) (judges (writes layers b q s) q s (last_of blocks) new) blocks))

abbrev pub layers : ℕ
layers = 2

-- ---- a clear
-- the block of the tag's standing record, counted from 0
abbrev pub holds : ℕ → List Entry → Bool
holds tag [] = false
holds tag (e ∷ l) = (e.stands && eqb e.tag tag) || holds tag l

abbrev pub holder_of : ℕ → List Block → ℕ
holder_of tag [] = 0
holder_of tag (k ∷ l) = cond (holds tag k.entries) 0 (suc (holder_of tag l))

abbrev pub ends_tag : ℕ → List Entry → List Entry
ends_tag tag [] = []
ends_tag tag (e ∷ l) = record { tag = e.tag; stands = e.stands && not (eqb e.tag tag) } ∷ ends_tag tag l

abbrev pub ends_in : ℕ → Block → Block
ends_in tag k = record { opened = k.opened; closed = k.closed; entries = ends_tag tag k.entries }

-- ---- the book after an accepted change at s
abbrev pub book_set : ℕ → ℕ → Book → Book
book_set s tag k = record { b = k.b; q = k.q; blocks = writes layers k.b k.q s tag k.blocks }

-- A clear ends the tag's standing record and, if that is not in the last block, judges its block.
abbrev pub book_clear : ℕ → ℕ → Book → Book
book_clear s tag k =
    let i = holder_of tag k.blocks in
    let after = on_block i (ends_in tag) k.blocks in
    record {
      b = k.b;
      q = k.q;
      blocks = cond (eqb i (last_of k.blocks)) after (judges (writes layers k.b k.q s) k.q s i after);
    }

-- a new reading is the clear, then the set
abbrev pub book_update : ℕ → ℕ → Book → Book
book_update s tag k = book_set s tag (book_clear s tag k)

-- ---- what is read off the book
-- records written
abbrev pub records_in : List Block → ℕ
records_in [] = 0
records_in (k ∷ l) = length k.entries + records_in l

-- opening and closing seconds, block by block
abbrev pub openings : List Block → List ℕ
openings [] = []
openings (k ∷ l) = k.opened ∷ openings l

abbrev pub closings : List Block → List ℕ
closings [] = []
closings (k ∷ l) = k.closed ∷ closings l

-- blocks open at t: opened ≤ t < closed
abbrev pub open_at : ℕ → List Block → ℕ
open_at t [] = 0
open_at t (k ∷ l) = cond (leb k.opened t && ltb t k.closed) (suc (open_at t l)) (open_at t l)
