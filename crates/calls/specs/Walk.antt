-- THE LOOK-BACK'S WALK (document 01, "The look-back"), over what it reads: block 0's last child, a block by its number, a page by its level
-- and number. A store is one such reader; whatever hands out the same words has the same walk.
use Rattle.std.specs.Prelude.{cond, ◌&&◌, List, [], ◌∷◌, ◌++◌, ℕ, zero, suc, ◌+◌, ◌*◌, ◌-◌, ◌/◌, min, eqb, ltb, leb, length, get_or}
use Rattle.layout.specs.Sizes.{OPEN, page_len}
use Rattle.layout.specs.Fields.{closed_word, up_word, left_word, child_word, tag_word, from_word, to_word}
use Rattle.layout.specs.Parts.{block_word, slot_word}
use Rattle.layout.specs.Payload.{payload_in}
use Rattle.calls.specs.Calls.{Row}

pub record Reader : Type 0 where
  -- block 0's last child
  pub root : ℕ
  pub block : ℕ → List ℕ
  -- level and number, counted from 0 in its level
  pub page : ℕ → ℕ → List ℕ

-- what a part of the walk finds, or a link that is unsound
pub data Finding (A B : Type 0) : Type 0 where
  unsound : Finding A B
  found : A → B → Finding A B

-- ---- the index: from the top level's page down to a block
-- a page passed
pub record Pass : Type 0 where
  pub level : ℕ
  pub number : ℕ

-- of the first k words of a page, 1 + the last that is not after t; 0 if there is none
unfoldable pub last_up_to : ℕ → ℕ → List ℕ → ℕ
last_up_to t zero page = 0
last_up_to t (suc k) page = cond (leb (get_or page k 0) t) (suc k) (last_up_to t k page)

-- the entries of a level over N blocks: entries beyond are not entries
unfoldable pub entries : ℕ → ℕ → ℕ
entries opened zero = opened
entries opened (suc l) = (entries opened l + (page_len - 1)) / page_len

-- the lowest level that has all entries on one page
unfoldable pub top_level : ℕ → ℕ
top_level opened = cond (leb (entries opened 0) page_len) 0 (cond (leb (entries opened 1) page_len) 1 2)

abbrev pub passing : Pass → Finding ℕ (List Pass) → Finding ℕ (List Pass)
passing p unsound = unsound
passing p (found n ps) = found n (p ∷ ps)

module _ (t opened : ℕ) (R : Reader) where
  -- what page e of level l gives
  unfoldable pub look_up : ℕ → ℕ → ℕ
  look_up l e = last_up_to t (min page_len (entries opened l - page_len * e)) (R.page l e)

  -- below level l, from its entry e: a lower page with no entry up to t is unsound
  unfoldable pub descend : ℕ → ℕ → Finding ℕ (List Pass)
  descend zero e = found (suc e) []
  descend (suc l) e =
      let k = look_up l e in
      cond (eqb k 0) unsound (passing (record { level = l; number = e }) (descend l (page_len * e + (k - 1))))

  -- the block that starts the path, 0 if there is none, and the pages passed: none with N = 0; the top page alone if it has no entry up to t
  unfoldable pub search : Finding ℕ (List Pass)
  search =
      let l = top_level opened in
      let k = look_up l 0 in
      cond (eqb opened 0) (found 0 [])
      (passing (record { level = l; number = 0 }) (cond (eqb k 0) (found 0 []) (descend l (k - 1))))

-- ---- the rows of a block at t, in slot order, of all b slots: a record [from, to) stands at t if from ≤ t < to
unfoldable pub row_of : ℕ → List ℕ → ℕ → List Row
row_of t block k =
    cond (leb (slot_word block k from_word) t && ltb t (slot_word block k to_word))
    (record { tag = slot_word block k tag_word; payload = payload_in block k } ∷ [])
    []

unfoldable pub rows_of : ℕ → ℕ → List ℕ → List Row
rows_of zero t block = []
rows_of (suc k) t block = rows_of k t block ++ row_of t block k

-- ---- visit and path: rows and reading list
abbrev pub Walk : Type 0
Walk = Finding (List Row) (List ℕ)

-- one walk after another
abbrev pub and_then : Walk → Walk → Walk
and_then unsound w = unsound
and_then (found r l) unsound = unsound
and_then (found r l) (found r' l') = found (r ++ r') (l ++ l')

-- a block listed with its rows, then two walks
abbrev pub listed : ℕ → List Row → Walk → Walk → Walk
listed n r v w = and_then (found r (n ∷ [])) (and_then v w)

-- the left neighbour of a path block: its own left if it is closed, else its up's last child
unfoldable pub neighbour : Reader → ℕ → ℕ
neighbour R n =
    let up = block_word (R.block n) up_word in
    cond (eqb (block_word (R.block n) closed_word) OPEN)
    (cond (eqb up 0) R.root (block_word (R.block up) child_word))
    (block_word (R.block n) left_word)

module _ (b t : ℕ) (R : Reader) where
  -- A visit stays strictly between a lower and an upper number, and 0 ends it. A visited block is listed; if it closed at or before t the visit
  -- ends; else its rows are taken, then its last child is visited, then its left. The gap falls, so a fuel above upper − lower is enough.
  unfoldable pub visit : ℕ → ℕ → ℕ → ℕ → Walk
  visit zero lower upper n = unsound
  visit (suc fuel) lower upper n =
      let block = R.block n in
      let deep = listed n (rows_of b t block) (visit fuel n upper (block_word block child_word)) (visit fuel lower n (block_word block left_word)) in
      cond (eqb n 0) (found [] [])
      (cond (leb n lower) unsound
      (cond (leb upper n) unsound
      (cond (leb (block_word block closed_word) t) (found [] (n ∷ [])) deep)))

  -- The path goes up by 'up' until 0. Each path block is listed, its rows are taken, then its left neighbour is visited, between its up and
  -- itself. An up that is not below its block is unsound; so the number falls, and a fuel above it is enough.
  unfoldable pub path : ℕ → ℕ → Walk
  path zero n = unsound
  path (suc fuel) n =
      let up = block_word (R.block n) up_word in
      let on = listed n (rows_of b t (R.block n)) (visit (suc n) up n (neighbour R n)) (path fuel up) in
      cond (eqb n 0) (found [] []) (cond (leb n up) unsound on)

-- ---- the whole: search, path from the block found, and at most D rows
pub data Looked : Type 0 where
  unsoundly : Looked
  looked : List Row → List ℕ → List Pass → Looked

abbrev pub within : ℕ → List Pass → Walk → Looked
within d ps unsound = unsoundly
within d ps (found r l) = cond (ltb d (length r)) unsoundly (looked r l ps)

abbrev pub onward : (ℕ → List Pass → Looked) → Finding ℕ (List Pass) → Looked
onward k unsound = unsoundly
onward k (found n ps) = k n ps

unfoldable pub look : ℕ → ℕ → ℕ → ℕ → Reader → Looked
look b d opened t R = onward (λ n ps. within d ps (path b t R (suc n) n)) (search t opened R)
