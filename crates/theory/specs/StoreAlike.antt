-- A store alike, on any words: one with the same length, head, index pages passed and listed blocks gets the same answer to a look-back, both buffers'
-- final words included (store_alike). The refusals see only length and head; the walk sees only the pages passed and the listed blocks: a reader alike in
-- these and in the last child of block 0 has the same look-back, whatever else it hands out (look_alike).
use Rattle.std.specs.Prelude.{◌≡◌, List, [], ◌∷◌, ℕ, ◌<◌, length, take}
use Rattle.std.proofs.Common.{◌∙◌, arith, get_or-take, lit≤}
use Rattle.std.proofs.Math.Path.{sym, ap}
use Rattle.std.proofs.Math.ListN.{get_or}
use borrow.Author.Tests.{ne_eqb}
use Rattle.base.specs.Branch.{is?}
use Rattle.base.specs.Sums.{All, cons, all_left, all_right, all_map}
use Rattle.layout.specs.declared.head.Head.{Head}
use Rattle.layout.specs.Sizes.{OPEN, head_len}
use Rattle.layout.specs.Head.{head_of, bad_head}
use Rattle.layout.specs.Parts.{block_part}
use Rattle.calls.specs.Calls.{Row, View}
use Rattle.calls.specs.Walk.{Reader, Pass, look_up, neighbour, looked, look}
use Rattle.calls.specs.LookBack.{SliceReply, reader, look_at, look_back}
use Rattle.calls.specs.Claims.{Alike, StoreAlike}
use Rattle.theory.specs.FoundWalk.{up_of, Visit, none, stop, deep, Path, top, step, Descent, ground, down, Search, empty, before, onto, looks, look_parts}
use Rattle.theory.specs.Passes.{PassTold, passed-pages, page_word}
use Rattle.theory.specs.ViewClaims.{Seen, shown_seen, few_blocks}

module _ (R S : Reader) where
  pub record SameBlock (n : ℕ) : Type 0 where
    pub same : R.block n ≡ S.block n

  pub record SamePage (p : Pass) : Type 0 where
    pub same : R.page p.level p.number ≡ S.page p.level p.number

  -- ---- the walk
  module _ (b t : ℕ) where
    visit_alike : {lo hi n : ℕ} {r : List Row} {l : List ℕ} → Visit b t R lo hi n r l → All SameBlock l → Visit b t S lo hi n r l
    visit_alike none a = none
    visit_alike (stop p q c) (cons e a) = stop p q (rw e.same at c)
    visit_alike (deep {l = l} {l' = l'} p q c v w) (cons e a) =
        let i = e.same in
        rw i (deep p q (rw i at c) (rw i at (visit_alike v (all_left l l' a))) (rw i at (visit_alike w (all_right l a))))

    -- the first block of a path is listed
    first_listed : {n : ℕ} {r : List Row} {l : List ℕ} → Path b t R n r l → All SameBlock l → 0 < n → SameBlock n
    first_listed top a h = absurd (omega arith)
    first_listed (step q v p) (cons e a) h = e

    neighbour_alike : R.root ≡ S.root → (n : ℕ) → SameBlock n → (0 < up_of R n → SameBlock (up_of R n)) → neighbour R n ≡ neighbour S n
    unfolding neighbour
    neighbour_alike root n e h =
        let i = e.same in
        is? (up_of R n) 0
        (λ z. rw (← i, z, root))
        (λ d. let j = (h (omega arith)).same in rw (← i, ne_eqb (up_of R n) 0 d, j))

    path_alike : R.root ≡ S.root → {n : ℕ} {r : List Row} {l : List ℕ} → Path b t R n r l → All SameBlock l → Path b t S n r l
    path_alike root top a = top
    path_alike root (step {n} {l = l} {l' = l'} q v p) (cons e a) =
        let i = e.same in
        let j = neighbour_alike root n e (first_listed p (all_right l a)) in
        rw i (step (rw i at q) (rw (i, j) at (visit_alike v (all_left l l' a))) (rw i at (path_alike root p (all_right l a))))

  -- ---- the search
  module _ (t opened : ℕ) where
    look_up_alike : (p : Pass) → SamePage p → look_up t opened S p.level p.number ≡ look_up t opened R p.level p.number
    unfolding look_up
    look_up_alike p e = rw e.same

    descent_alike : {l e n : ℕ} {ps : List Pass} → Descent t opened R l e n ps → All SamePage ps → Descent t opened S l e n ps
    descent_alike ground a = ground
    descent_alike (down h d) (cons q a) = down (look_up_alike _ q ∙ h) (descent_alike d a)

    search_alike : {n : ℕ} {ps : List Pass} → Search t opened R n ps → All SamePage ps → Search t opened S n ps
    search_alike (empty e) a = empty e
    search_alike (before p h) (cons q a) = before p (look_up_alike _ q ∙ h)
    search_alike (onto p h d) (cons q a) = onto p (look_up_alike _ q ∙ h) (descent_alike d a)

  -- ---- the whole
  pub look_alike : (b d opened t : ℕ) {r : List Row} {l : List ℕ} {ps : List Pass} → look b d opened t R ≡ looked r l ps
      → R.root ≡ S.root → All SameBlock l → All SamePage ps → look b d opened t S ≡ looked r l ps
  look_alike b d opened t e root blocks pages =
      let x = look_parts e in
      looks (record {
        block = x.block;
        searched = search_alike t opened x.searched pages;
        walked = path_alike b t root x.walked blocks;
        fits = x.fits;
      })

-- ---- the head is in the first 16 words

module _ (ws ws' : List ℕ) (e : take head_len ws' ≡ take head_len ws) where
  word_same : (j : ℕ) → j < head_len → get_or ws' j 0 ≡ get_or ws j 0
  word_same j h = sym (get_or-take head_len ws' j 0 h) ∙ ap (λ (l : List ℕ). get_or l j 0) e ∙ get_or-take head_len ws j 0 h

  pub head_same : head_of ws' ≡ head_of ws
  unfolding head_of
  head_same =
      let w = word_same in
      rw (w 1 (lit≤ tt), w 2 (lit≤ tt), w 3 (lit≤ tt), w 4 (lit≤ tt), w 5 (lit≤ tt), w 6 (lit≤ tt), w 7 (lit≤ tt), w 8 (lit≤ tt), w 9 (lit≤ tt))

  pub bad_head_same : bad_head ws' ≡ bad_head ws
  unfolding bad_head
  bad_head_same =
      let w = word_same in
      rw (head_same, w 0 (lit≤ tt), w 10 (lit≤ tt), w 11 (lit≤ tt), w 12 (lit≤ tt), w 13 (lit≤ tt), w 14 (lit≤ tt), w 15 (lit≤ tt))

-- ---- the reply is the same

module _ (ws ws' : List ℕ) (t : ℕ) (rows list : List ℕ) where
  look_back_same : length ws' ≡ length ws → head_of ws' ≡ head_of ws → bad_head ws' ≡ bad_head ws → look_at ws' t ≡ look_at ws t
      → look_back ws' t rows list ≡ look_back ws t rows list
  unfolding look_back
  look_back_same long head bad walk = rw (walk, long, head, bad)

  -- ---- the walk is the same

  module _ (v : View) (x : Seen ws t rows list v) (a : Alike ws ws' v) where
    head : head_of ws' ≡ head_of ws
    head = head_same ws ws' a.head

    root_same : (reader ws).root ≡ (reader ws').root
    unfolding reader
    root_same = ap (λ (h : Head). h.cursor.child) (sym head)

    block_same : (n : ℕ) → block_part (head_of ws).settings ws' n ≡ block_part (head_of ws).settings ws n → SameBlock (reader ws) (reader ws') n
    unfolding reader
    block_same n e = record { same = rw head (sym e) }

    -- a pass is what the view's word of its level tells
    page_same : (p : Pass) → PassTold 3 x.passes p → SamePage (reader ws) (reader ws') p
    unfolding reader
    page_same p o =
        let shown : get_or v.pages p.level OPEN ≡ p.number =
        ap (λ (v : View). get_or v.pages p.level OPEN) x.view ∙ page_word v.rows v.list x.passes p.level o.low ∙ o.told in
        record { same = sym (rw shown at (a.pages p.level o.low (rw shown o.some))) }

    walk_same : look_at ws' t ≡ look_at ws t
    unfolding look_at
    walk_same =
        let b = (head_of ws).settings.block in
        let d = (head_of ws).settings.tags in
        let N = (head_of ws).cursor.opened in
        let few = few_blocks ws x.passed in
        rw head (look_alike (reader ws) (reader ws') b d N t x.walked root_same (all_map block_same a.blocks)
        (all_map page_same (passed-pages b d N t (reader ws) (omega (arith, few.0, few.1)) x.walked)) ∙ sym x.walked)

pub store_alike : (ws : List ℕ) (t : ℕ) (rows list : List ℕ) → StoreAlike ws t rows list
store_alike ws t rows list = record {
  same_answer = λ ws' v e a.
      let x = shown_seen ws t rows list v e in
      let head = head_same ws ws' a.head in
      let same = look_back_same ws ws' t rows list a.long head (bad_head_same ws ws' a.head) (walk_same ws ws' t rows list v x a) in
      λ i. record { answer = (ap (λ (r : SliceReply). r.answer) same ∙ e) i; store = ws'; lent = (same i).rows ∷ (same i).list ∷ [] };
}
