-- What a found walk lists, on any reader: blocks between its bounds and none twice (Apart), at least half of which close after t on a path that climbs,
-- and rows that are those of the listed blocks. A walk over blocks that stand in trees (Tree) is answered, and takes in all blocks from 1 to its start: for
-- every weight that only blocks closing after t have, the list's sum is that of all of them (whole, whole_path). Weights and sums are those of base's Sums.
use Rattle.std.specs.Prelude.{◌≡◌, List, [], ◌∷◌, ◌++◌, ◌≢◌, ℕ, suc, ◌+◌, ◌*◌, ◌≤◌, ◌<◌, zero, ltb, length}
use Rattle.std.proofs.Common.{arith, add-one, length-append}
use borrow.Author.Tests.{eq-eqb, ne_eqb, lt-ltb, le-ltb}
use Rattle.base.specs.Branch.{lt?, cmp?, is?}
use Rattle.base.specs.Sums.{is, total, totals, occ, upto, upto_suc, upto_none}
use Rattle.layout.specs.Sizes.{OPEN}
use Rattle.calls.specs.Calls.{Row}
use Rattle.calls.specs.Walk.{Reader, neighbour}
use Rattle.theory.specs.FoundWalk.{closed_of, up_of, rows_in, Visit, none, stop, deep, Path, top, step, left_of, child_of}
use Rattle.theory.specs.Row.{BlockView, Tree, leaf, node}

-- ---- no block twice

-- a list of numbers strictly between lo and hi, none of them twice
pub record Apart (lo hi : ℕ) (l : List ℕ) : Type 0 where
  pub once : (m : ℕ) → occ m l ≤ 1
  pub above : (m : ℕ) → m ≤ lo → occ m l ≡ 0
  pub below : (m : ℕ) → hi ≤ m → occ m l ≡ 0
  pub short : length l + lo < hi

apart_none : (lo hi : ℕ) → lo < hi → Apart lo hi []
apart_none lo hi h =
    record { once = λ m. simp totals (omega arith); above = λ m i. simp totals; below = λ m i. simp totals; short = omega arith }

-- n, and two lists on its two sides
apart_join : (lo hi n : ℕ) (l l' : List ℕ) → Apart n hi l → Apart lo n l' → Apart lo hi (n ∷ (l ++ l'))
apart_join lo hi n l l' a a' =
    let p = a.short in
    let p' = a'.short in
    record {
      once = λ m. cmp? m n
          (λ h. simp (totals, ne_eqb m n (omega arith)) (omega (arith, a.above m (omega arith), a'.once m)))
          (λ h. simp (totals, eq-eqb m n h) (omega (arith, a.above m (omega arith), a'.below m (omega arith))))
          (λ h. simp (totals, ne_eqb m n (omega arith)) (omega (arith, a.once m, a'.below m (omega arith))));
      above = λ m i. simp (totals, ne_eqb m n (omega arith)) (omega (arith, a.above m (omega arith), a'.above m i));
      below = λ m i. simp (totals, ne_eqb m n (omega arith)) (omega (arith, a.below m i, a'.below m (omega arith)));
      short = simp length-append (omega arith);
    }

-- one list above k, the other up to k
apart_append : (lo k hi : ℕ) (l l' : List ℕ) → Apart k hi l → Apart lo (suc k) l' → Apart lo hi (l ++ l')
apart_append lo k hi l l' a a' =
    let p = a.short in
    let p' = a'.short in
    record {
      once = λ m. lt? k m
          (λ h. simp totals (omega (arith, a.once m, a'.below m h)))
          (λ h. simp totals (omega (arith, a.above m h, a'.once m)));
      above = λ m i. simp totals (omega (arith, a.above m (omega arith), a'.above m i));
      below = λ m i. simp totals (omega (arith, a.below m i, a'.below m (omega arith)));
      short = simp length-append (omega arith);
    }

-- wider bounds
pub apart_wider : {lo hi hi' : ℕ} {l : List ℕ} → hi ≤ hi' → Apart lo hi l → Apart lo hi' l
apart_wider h a = record { once = a.once; above = a.above; below = λ m i. a.below m (omega arith); short = omega (arith, a.short) }

module _ (b t : ℕ) (R : Reader) where
  pub visit_apart : {lo hi n : ℕ} {r : List Row} {l : List ℕ} → Visit b t R lo hi n r l → lo < hi → Apart lo hi l
  visit_apart (none {lo} {hi}) h = apart_none lo hi h
  visit_apart (stop {lo} {hi} {n} p q c) h = apart_join lo hi n [] [] (apart_none n hi q) (apart_none lo n p)
  visit_apart (deep {lo} {hi} {n} {l = l} {l' = l'} p q c v w) h = apart_join lo hi n l l' (visit_apart v q) (visit_apart w p)

  -- A path from n lists blocks from 1 to n, none twice.
  pub path_apart : {n : ℕ} {r : List Row} {l : List ℕ} → Path b t R n r l → Apart 0 (suc n) l
  path_apart top = apart_none 0 1 (omega arith)
  path_apart (step {n} {l = l} {l' = l'} q v p) =
      apart_join 0 (suc n) n [] (l ++ l') (apart_none n (suc n) (omega arith)) (apart_append 0 _ n l l' (visit_apart v q) (path_apart p))

-- ---- at least half of them close after t

module _ (t : ℕ) (R : Reader) where
  -- 1 for a block that closes after t
  unfoldable pub outlasts : ℕ → ℕ
  outlasts m = is (ltb t (closed_of R m))

  -- a weight that, of blocks 1 to k, only those have that close after t
  unfoldable pub Late : ℕ → (ℕ → ℕ) → Type 0
  Late k w = (m : ℕ) → 0 < m → m ≤ k → closed_of R m ≤ t → w m ≡ 0

  pub late_outlasts : (k : ℕ) → Late k outlasts
  unfolding Late outlasts
  late_outlasts k m i j h = simp (le-ltb t _ h)

module _ (b t : ℕ) (R : Reader) where
  pub visit_half : {lo hi n : ℕ} {r : List Row} {l : List ℕ} → Visit b t R lo hi n r l → length l ≤ 2 * total (outlasts t R) l + 1
  unfolding outlasts
  visit_half none = simp totals (omega arith)
  visit_half (stop p q c) = simp (totals, le-ltb t _ c) (omega arith)
  visit_half (deep p q c v w) = simp (totals, lt-ltb t _ c, length-append) (omega (arith, visit_half v, visit_half w))

  -- A path from a block that closes after t, where up to k no block closes after its up.
  pub path_half : (k : ℕ) → ((m : ℕ) → 0 < m → m ≤ k → 0 < up_of R m → closed_of R m ≤ closed_of R (up_of R m))
      → {n : ℕ} {r : List Row} {l : List ℕ} → Path b t R n r l → n ≤ k → (0 < n → t < closed_of R n)
      → length l ≤ 2 * total (outlasts t R) l
  unfolding outlasts
  path_half k h top i o = simp totals (omega arith)
  path_half k h (step {n} q v p) i o =
      let c = o (omega arith) in
      simp (totals, lt-ltb t _ c, length-append)
      (omega (arith, visit_half v, path_half k h p (omega arith) (λ z. omega (arith, h n (omega arith) i z))))

  -- ---- the rows are those of the listed blocks

  module _ (w : Row → ℕ) where
    -- what the rows of block m weigh
    unfoldable pub rows_weigh : ℕ → ℕ
    rows_weigh m = total w (rows_in b t R m)

    pub visit_rows : (k : ℕ) → Late t R k rows_weigh → {lo hi n : ℕ} {r : List Row} {l : List ℕ}
        → Visit b t R lo hi n r l → hi ≤ suc k → total w r ≡ total rows_weigh l
    unfolding rows_weigh Late
    visit_rows k z none i = simp totals
    visit_rows k z (stop {lo} {hi} {n} p q c) i = simp totals (omega (arith, z n (omega arith) (omega arith) c))
    visit_rows k z (deep p q c v w) i = simp (totals, visit_rows k z v i, visit_rows k z w (omega arith))

    -- A block that closed by t is listed without its rows, so this asks that it has none.
    pub path_rows : (k : ℕ) → Late t R k rows_weigh → {n : ℕ} {r : List Row} {l : List ℕ}
        → Path b t R n r l → n ≤ k → total w r ≡ total rows_weigh l
    unfolding rows_weigh
    path_rows k z top i = simp totals
    path_rows k z (step q v p) i = simp (totals, visit_rows k z v (omega arith), path_rows k z p (omega arith))

-- ---- over trees: a tree's root closed last, so where it closed by t all under it did
-- a reader hands out the view's closing and links: of block 0 the last child, of blocks 1 to N all four
pub record Agree (R : Reader) (v : BlockView) (N : ℕ) : Type 0 where
  pub root : R.root ≡ v.child 0
  pub closed : (n : ℕ) → 0 < n → n ≤ N → closed_of R n ≡ v.closed n
  pub up : (n : ℕ) → 0 < n → n ≤ N → up_of R n ≡ v.up n
  pub left : (n : ℕ) → 0 < n → n ≤ N → left_of R n ≡ v.left n
  pub child : (n : ℕ) → 0 < n → n ≤ N → child_of R n ≡ v.child n

-- what a path asks of its block: an up below it that closes no earlier, and a tree between, under the left neighbour
pub record Rooted (R : Reader) (v : BlockView) (n : ℕ) : Type 0 where
  pub lower : v.up n < n
  pub tree : Tree v (v.up n) n (neighbour R n)
  pub climbs : v.closed n ≤ v.closed (v.up n)

module _ {R : Reader} {v : BlockView} {N : ℕ} (a : Agree R v N) where
  -- The left neighbour of an open block is its up's last child, that of a closed block its left.
  neighbour_open : (n : ℕ) → 0 < n → n ≤ N → v.up n < n → v.closed n ≡ OPEN → neighbour R n ≡ v.child (v.up n)
  unfolding neighbour
  neighbour_open n p q u o = rw (a.closed n p q, o, a.up n p q) (is? (v.up n) 0
      (λ z. rw (z, a.root))
      (λ d. rw (ne_eqb (v.up n) 0 d) (a.child (v.up n) (omega arith) (omega arith))))

  neighbour_closed : (n : ℕ) → 0 < n → n ≤ N → v.closed n ≢ OPEN → neighbour R n ≡ v.left n
  unfolding neighbour
  neighbour_closed n p q o = rw (a.closed n p q, ne_eqb (v.closed n) OPEN o) (a.left n p q)

  -- So an open block is rooted by the tree to its left in the row, a closed one by the tree under its left.
  pub rooted_open : (n : ℕ) → 0 < n → n ≤ N → v.closed n ≡ OPEN → v.up n < n → v.closed (v.up n) ≡ OPEN
      → Tree v (v.up n) n (v.child (v.up n)) → Rooted R v n
  rooted_open n p q o u s x = record { lower = u; tree = rw (neighbour_open n p q u o) x; climbs = omega arith }

  pub rooted_closed : (n : ℕ) → 0 < n → n ≤ N → v.closed n ≢ OPEN → v.up n < n → v.closed n ≤ v.closed (v.up n)
      → Tree v (v.up n) n (v.left n) → Rooted R v n
  rooted_closed n p q o u c x = record { lower = u; tree = rw (neighbour_closed n p q o) x; climbs = c }

module _ (b t : ℕ) {R : Reader} {v : BlockView} {N : ℕ} (a : Agree R v N) where
  -- a visit between lo and hi that takes in all blocks there
  pub record WholeVisit (lo hi n : ℕ) : Type 0 where
    pub rows : List Row
    pub list : List ℕ
    pub walked : Visit b t R lo hi n rows list
    pub sum : (w : ℕ → ℕ) → Late t R N w → total w list + upto w (suc lo) ≡ upto w hi

  pub whole : {lo hi n : ℕ} → Tree v lo hi n → hi ≤ suc N → WholeVisit lo hi n
  unfolding Late
  whole (leaf e f) h = rw e (record { rows = []; list = []; walked = none; sum = λ w z. simp (totals, f, add-one) (omega arith) })
  whole (node {lo} {hi} {c} p q o u k x y) h =
      go (rw (a.child c (omega arith) (omega arith)) (whole x h)) (rw (a.left c (omega arith) (omega arith)) (whole y (omega arith)))
    where
      closed : closed_of R c ≡ v.closed c
      closed = a.closed c (omega arith) (omega arith)

      go : WholeVisit c hi (child_of R c) → WholeVisit lo c (left_of R c) → WholeVisit lo hi c
      go x y = lt? t (closed_of R c)
          (λ i. record {
            rows = rows_in b t R c ++ (x.rows ++ y.rows);
            list = c ∷ (x.list ++ y.list);
            walked = deep p q i x.walked y.walked;
            sum = λ w z. simp totals (omega (arith, x.sum w z, y.sum w z, upto_suc w c));
          })
          (λ i. record {
            rows = [];
            list = c ∷ [];
            walked = stop p q i;
            sum = λ w z. simp totals (omega (
              arith,
              z c (omega arith) (omega arith) i,
              upto_none w (suc lo) hi (omega arith)
                  (λ m f g. z m (omega arith) (omega arith) (omega (arith, k m f g, closed, a.closed m (omega arith) (omega arith)))),
            ));
          })

  -- a path from n that takes in all blocks from 1 to n
  pub record WholePath (n : ℕ) : Type 0 where
    pub rows : List Row
    pub list : List ℕ
    pub walked : Path b t R n rows list
    pub sum : (w : ℕ → ℕ) → Late t R N w → total w list + upto w 1 ≡ upto w (suc n)

  path_step : {n : ℕ} → up_of R n < n → WholeVisit (up_of R n) n (neighbour R n) → WholePath (up_of R n) → WholePath n
  path_step {n} p x y = record {
    rows = rows_in b t R n ++ (x.rows ++ y.rows);
    list = n ∷ (x.list ++ y.list);
    walked = step p x.walked y.walked;
    sum = λ w z. simp totals (omega (arith, x.sum w z, y.sum w z, upto_suc w n));
  }

  -- The fuel bounds n, which falls from a block to its up.
  path_from : (fuel n : ℕ) → n < fuel → n ≤ N → ((m : ℕ) → 0 < m → m ≤ n → Rooted R v m) → WholePath n
  path_from zero n h i r = absurd (omega arith)
  path_from (suc fuel) zero h i r = record { rows = []; list = []; walked = top; sum = λ w z. simp totals (omega arith) }
  path_from (suc fuel) (suc n) h i r =
      let here = r (suc n) (omega arith) (omega arith) in
      let lower = here.lower in
      let up = a.up (suc n) (omega arith) i in
      path_step (rw up lower) (rw up (whole here.tree (omega arith)))
      (rw up (path_from fuel (v.up (suc n)) (omega arith) (omega arith) (λ m p q. r m p (omega arith))))

  pub whole_path : (n : ℕ) → n ≤ N → ((m : ℕ) → 0 < m → m ≤ n → Rooted R v m) → WholePath n
  whole_path n h r = path_from (suc n) n (omega arith) h r
