-- The links of the blocks, whatever holds them, and the trees of closed blocks: under a block that closed last stand, to its two sides, those that closed
-- before it. A tree is a matter of the blocks in its span (tree_frame). The row of open blocks, block 0 first, with a tree between each two: what every
-- change keeps of the links (Linked). A block that leaves the row (unlinked) and one that opens at its end (opened) keep it.
use Rattle.std.specs.Prelude.{◌≡◌, refl, ◌≢◌, ℕ, ◌+◌, ◌≤◌, ◌<◌}
use Rattle.std.proofs.Common.{◌∙◌, sym, ap, arith}
use Rattle.base.specs.Branch.{cmp?, is?}
use Rattle.layout.specs.Sizes.{OPEN}

-- the seconds and links by block number; block 0 never closes, and has its two links in the head
pub record BlockView : Type 0 where
  pub opened : ℕ → ℕ
  pub closed : ℕ → ℕ
  pub up : ℕ → ℕ
  pub left : ℕ → ℕ
  pub child : ℕ → ℕ
  pub right : ℕ → ℕ

-- the closed blocks strictly between lo and hi, under c; c is 0 if there are none
pub data Tree (v : BlockView) : ℕ → ℕ → ℕ → Type 0 where
  leaf : {lo hi c : ℕ} → c ≡ 0 → hi ≡ lo + 1 → Tree v lo hi c
  node : {lo hi c : ℕ} → lo < c → c < hi → v.closed c ≢ OPEN → v.up c ≡ lo → ((m : ℕ) → lo < m → m < hi → v.closed m ≤ v.closed c)
      → Tree v c hi (v.child c) → Tree v lo c (v.left c) → Tree v lo hi c

-- every block in a tree's span is closed
pub tree_closed : {v : BlockView} {lo hi c : ℕ} → Tree v lo hi c → (m : ℕ) → lo < m → m < hi → v.closed m ≢ OPEN
tree_closed (leaf z e) m a b = absurd (omega arith)
tree_closed {v} (node {c = c} p q o u h k l) m a b = cmp? m c (λ x. tree_closed l m a x) (λ e. rw e o) (λ x. tree_closed k m x b)

-- two views alike at block m
pub record AlikeAt (v w : BlockView) (m : ℕ) : Type 0 where
  pub closed : w.closed m ≡ v.closed m
  pub up : w.up m ≡ v.up m
  pub left : w.left m ≡ v.left m
  pub child : w.child m ≡ v.child m

-- only the blocks in the span matter
pub tree_frame : {v w : BlockView} {lo hi c : ℕ} → ((m : ℕ) → lo < m → m < hi → AlikeAt v w m) → Tree v lo hi c → Tree w lo hi c
tree_frame h (leaf z e) = leaf z e
tree_frame h (node {c = c} p q o u b k l) =
    let a = h c p q in
    node p q (rw a.closed o) (a.up ∙ u) (λ m x y. omega (arith, a.closed, (h m x y).closed, b m x y))
    (rw a.child (tree_frame (λ m x y. h m (omega arith) y) k))
    (rw a.left (tree_frame (λ m x y. h m x (omega arith)) l))

-- ---- the row
-- an open block hangs to the right of an open one; between them is a tree
pub record InRow (v : BlockView) (n : ℕ) : Type 0 where
  pub up : v.up n < n
  pub stands : v.closed (v.up n) ≡ OPEN
  pub back : v.right (v.up n) ≡ n
  pub tree : Tree v (v.up n) n (v.child (v.up n))

-- an open block but the last has an open one to its right
pub record Next (v : BlockView) (N n : ℕ) : Type 0 where
  pub stands : v.closed (v.right n) ≡ OPEN
  pub above : n < v.right n
  pub below : v.right n ≤ N
  pub back : v.up (v.right n) ≡ n

-- a closed block: it closed after the next had opened, and under its up, over a tree of blocks that closed no later
pub record Shut (v : BlockView) (N clock n : ℕ) : Type 0 where
  pub inner : n < N
  pub after : v.opened (n + 1) ≤ v.closed n
  pub past : v.closed n ≤ clock
  pub up : v.up n < n
  pub tree : Tree v (v.up n) n (v.left n)
  pub top : (m : ℕ) → v.up n < m → m < n → v.closed m ≤ v.closed n
  pub under : v.closed n ≤ v.closed (v.up n)

-- the links of N blocks, none opened or closed after the clock; block N is open and has no child
pub record Linked (v : BlockView) (N clock : ℕ) : Type 0 where
  pub first : v.closed 0 ≡ OPEN
  pub last : v.closed N ≡ OPEN
  pub childless : v.child N ≡ 0
  pub opened : (n : ℕ) → 1 ≤ n → n ≤ N → v.opened n ≤ clock
  pub row : (n : ℕ) → 1 ≤ n → n ≤ N → v.closed n ≡ OPEN → InRow v n
  pub next : (n : ℕ) → n < N → v.closed n ≡ OPEN → Next v N n
  pub shut : (n : ℕ) → n ≤ N → v.closed n ≢ OPEN → Shut v N clock n

-- ---- the same, said of numbers that the links are
in_row : {w : BlockView} {n up child : ℕ} → w.up n ≡ up → up < n → w.closed up ≡ OPEN → w.right up ≡ n → w.child up ≡ child
    → Tree w up n child → InRow w n
in_row u a b d k t = record { up = rw u a; stands = rw u b; back = rw u d; tree = rw (u, k) t }

next_is : {w : BlockView} {N n right : ℕ} → w.right n ≡ right → w.closed right ≡ OPEN → n < right → right ≤ N → w.up right ≡ n → Next w N n
next_is r a b c d = record { stands = rw r a; above = rw r b; below = rw r c; back = rw r d }

shut_is : {w : BlockView} {N clock n closed up left : ℕ} → w.closed n ≡ closed → w.up n ≡ up → w.left n ≡ left → n < N → w.opened (n + 1) ≤ closed
    → closed ≤ clock → up < n → Tree w up n left → ((m : ℕ) → up < m → m < n → w.closed m ≤ closed) → closed ≤ w.closed up → Shut w N clock n
shut_is c u l i a b d t h k = record {
  inner = i;
  after = rw c a;
  past = rw c b;
  up = rw u d;
  tree = rw (u, l) t;
  top = rw (u, c) h;
  under = rw (u, c) k;
}

-- g is f but for y at x
pub record Put (f g : ℕ → ℕ) (x y : ℕ) : Type 0 where
  pub here : g x ≡ y
  pub other : (n : ℕ) → n ≢ x → g n ≡ f n

-- ---- block x leaves the row at second now: it becomes the last child of its up, above what that was
pub record Unlinked (v w : BlockView) (x now : ℕ) : Type 0 where
  pub opened : (n : ℕ) → w.opened n ≡ v.opened n
  pub closed : Put v.closed w.closed x now
  pub up : Put v.up w.up (v.right x) (v.up x)
  pub right : Put v.right w.right (v.up x) (v.right x)
  pub left : Put v.left w.left x (v.child (v.up x))
  pub child : Put v.child w.child (v.up x) x

module _ {v w : BlockView} {N clock x now : ℕ} (i : Linked v N clock) (e : Unlinked v w x now) (some : 1 ≤ x) (inner : x < N) (open-x : v.closed x ≡ OPEN)
    (later : clock ≤ now) (ends : now < OPEN) where
  row_x : InRow v x
  row_x = i.row x some (omega arith) open-x

  next_x : Next v N x
  next_x = i.next x inner open-x

  -- a tree has none of the three open blocks that change
  tree_kept : {lo hi c : ℕ} → Tree v lo hi c → Tree w lo hi c
  tree_kept t = tree_frame (λ m a b.
      let d = tree_closed t m a b in
      let n1 : m ≢ x = λ z. d (rw z open-x) in
      let n2 : m ≢ v.up x = λ z. d (rw z row_x.stands) in
      let n3 : m ≢ v.right x = λ z. d (rw z next_x.stands) in
      record { closed = e.closed.other m n1; up = e.up.other m n3; left = e.left.other m n1; child = e.child.other m n2 }) t

  tree_past : {lo hi c : ℕ} → Tree v lo hi c → hi ≤ N → (m : ℕ) → lo < m → m < hi → w.closed m ≤ now
  tree_past t l m a b =
      let d = tree_closed t m a b in
      omega (arith, e.closed.other m (λ z. d (rw z open-x)), (i.shut m (omega arith) d).past)

  tree_before : Tree v (v.up x) x (v.child (v.up x))
  tree_before = row_x.tree

  tree_behind : Tree v x (v.right x) (v.child x)
  tree_behind = rw next_x.back at (i.row (v.right x) (omega (arith, next_x.above)) next_x.below next_x.stands).tree

  -- x closed last of all between its two neighbours, and so stands above both trees
  tree_joined : Tree w (v.up x) (v.right x) x
  tree_joined = node row_x.up next_x.above (omega (arith, e.closed.here)) (e.up.other x (omega (arith, next_x.above)))
      (λ m a b. cmp? m x
      (λ l. omega (arith, tree_past tree_before (omega arith) m a l, e.closed.here))
      (λ z. rw z (omega arith))
      (λ l. omega (arith, tree_past tree_behind next_x.below m l b, e.closed.here)))
      (rw (e.child.other x (omega (arith, row_x.up))) (tree_kept tree_behind))
      (rw e.left.here (tree_kept tree_before))

  -- what is open after it was open before, and is not x
  was_open : (n : ℕ) → w.closed n ≡ OPEN → (n ≢ x) × (v.closed n ≡ OPEN)
  was_open n o =
      let d : n ≢ x = λ z. let y : w.closed x ≡ OPEN = rw (← z) o in omega (arith, e.closed.here) in
      (d, sym (e.closed.other n d) ∙ o)

  row_after : (n : ℕ) → 1 ≤ n → n ≤ N → w.closed n ≡ OPEN → InRow w n
  row_after n a b o =
      let h = was_open n o in
      let r = i.row n a b h.1 in
      is? n (v.right x)
      (λ z. rw z (in_row e.up.here (omega (arith, row_x.up, next_x.above))
      (e.closed.other (v.up x) (omega (arith, row_x.up)) ∙ row_x.stands) e.right.here e.child.here tree_joined))
      (λ d.
      let p : v.up n ≢ v.up x = λ z. h.0 (sym r.back ∙ ap v.right z ∙ row_x.back) in
      let q : v.up n ≢ x = λ z. d (sym r.back ∙ ap v.right z) in
      in_row (e.up.other n d) r.up (e.closed.other (v.up n) q ∙ r.stands) (e.right.other (v.up n) p ∙ r.back)
      (e.child.other (v.up n) p) (tree_kept r.tree))

  next_after : (n : ℕ) → n < N → w.closed n ≡ OPEN → Next w N n
  next_after n a o =
      let h = was_open n o in
      let r = i.next n a h.1 in
      is? n (v.up x)
      (λ z. rw z (next_is e.right.here (e.closed.other (v.right x) (omega (arith, next_x.above)) ∙ next_x.stands)
      (omega (arith, row_x.up, next_x.above)) next_x.below e.up.here))
      (λ d.
      let p : v.right n ≢ v.right x = λ z. h.0 (sym r.back ∙ ap v.up z ∙ next_x.back) in
      let q : v.right n ≢ x = λ z. d (sym r.back ∙ ap v.up z) in
      next_is (e.right.other n d) (e.closed.other (v.right n) q ∙ r.stands) r.above r.below (e.up.other (v.right n) p ∙ r.back))

  shut_after : (n : ℕ) → n ≤ N → w.closed n ≢ OPEN → Shut w N now n
  shut_after n a o = is? n x
      (λ z. rw z (shut_is e.closed.here (e.up.other x (omega (arith, next_x.above))) e.left.here inner
      (omega (arith, e.opened (x + 1), i.opened (x + 1) (omega arith) (omega arith))) (omega arith)
      row_x.up (tree_kept tree_before) (λ m a b. tree_past tree_before (omega arith) m a b)
      (omega (arith, e.closed.other (v.up x) (omega (arith, row_x.up)), row_x.stands))))
      (λ d.
      let c = e.closed.other n d in
      let h : v.closed n ≢ OPEN = λ z. o (c ∙ z) in
      let r = i.shut n a h in
      shut_is c (e.up.other n (λ z. h (rw z next_x.stands))) (e.left.other n d) r.inner (omega (arith, e.opened (n + 1), r.after))
      (omega (arith, r.past)) r.up (tree_kept r.tree)
      (λ m a b. omega (arith, e.closed.other m (λ z. tree_closed r.tree m a b (rw z open-x)), r.top m a b))
      (is? (v.up n) x (λ z. rw z (omega (arith, e.closed.here, r.past))) (λ f. omega (arith, e.closed.other (v.up n) f, r.under))))

  pub unlinked : Linked w N now
  unlinked = record {
    first = e.closed.other 0 (omega arith) ∙ i.first;
    last = e.closed.other N (omega arith) ∙ i.last;
    childless = e.child.other N (omega (arith, row_x.up)) ∙ i.childless;
    opened = λ n a b. omega (arith, e.opened n, i.opened n a b);
    row = row_after;
    next = next_after;
    shut = shut_after;
  }

-- ---- block N + 1 opens at second now, to the right of block N
pub record Opened (v w : BlockView) (N now : ℕ) : Type 0 where
  pub opened : Put v.opened w.opened (N + 1) now
  pub closed : Put v.closed w.closed (N + 1) OPEN
  pub up : Put v.up w.up (N + 1) N
  pub left : Put v.left w.left (N + 1) 0
  pub child : Put v.child w.child (N + 1) 0
  pub right : w.right N ≡ N + 1
  pub rights : (n : ℕ) → n < N → w.right n ≡ v.right n

module _ {v w : BlockView} {N clock now : ℕ} (i : Linked v N clock) (e : Opened v w N now) (later : clock ≤ now) where
  tree_still : {lo hi c : ℕ} → hi ≤ N → Tree v lo hi c → Tree w lo hi c
  tree_still l t = tree_frame (λ m a b.
      let d : m ≢ N + 1 = omega arith in
      record { closed = e.closed.other m d; up = e.up.other m d; left = e.left.other m d; child = e.child.other m d }) t

  row_longer : (n : ℕ) → 1 ≤ n → n ≤ N + 1 → w.closed n ≡ OPEN → InRow w n
  row_longer n a b o = is? n (N + 1)
      (λ z. rw z (in_row e.up.here (omega arith) (e.closed.other N (omega arith) ∙ i.last) e.right
      (e.child.other N (omega arith) ∙ i.childless) (leaf refl refl)))
      (λ d.
      let r = i.row n a (omega arith) (sym (e.closed.other n d) ∙ o) in
      let p : v.up n ≢ N + 1 = omega arith in
      in_row (e.up.other n d) r.up (e.closed.other (v.up n) p ∙ r.stands) (e.rights (v.up n) (omega arith) ∙ r.back)
      (e.child.other (v.up n) p) (tree_still (omega arith) r.tree))

  next_longer : (n : ℕ) → n < N + 1 → w.closed n ≡ OPEN → Next w (N + 1) n
  next_longer n a o = is? n N
      (λ z. rw z (next_is e.right e.closed.here (omega arith) (omega arith) e.up.here))
      (λ d.
      let r = i.next n (omega arith) (sym (e.closed.other n (omega arith)) ∙ o) in
      let p : v.right n ≢ N + 1 = omega arith in
      next_is (e.rights n (omega arith)) (e.closed.other (v.right n) p ∙ r.stands) r.above (omega arith)
      (e.up.other (v.right n) p ∙ r.back))

  shut_longer : (n : ℕ) → n ≤ N + 1 → w.closed n ≢ OPEN → Shut w (N + 1) now n
  shut_longer n a o =
      let d : n ≢ N + 1 = λ z. o (rw z e.closed.here) in
      let c = e.closed.other n d in
      let r = i.shut n (omega arith) (λ z. o (c ∙ z)) in
      shut_is c (e.up.other n d) (e.left.other n d) (omega arith) (omega (arith, e.opened.other (n + 1) (omega arith))) (omega arith)
      r.up (tree_still (omega arith) r.tree)
      (λ m a b. omega (arith, e.closed.other m (omega arith), r.top m a b))
      (omega (arith, e.closed.other (v.up n) (omega arith)))

  pub opened : Linked w (N + 1) now
  opened = record {
    first = e.closed.other 0 (omega arith) ∙ i.first;
    last = e.closed.here;
    childless = e.child.here;
    opened = λ n a b. is? n (N + 1)
        (λ z. rw z (omega (arith, e.opened.here)))
        (λ d. omega (arith, e.opened.other n d, i.opened n a (omega arith)));
    row = row_longer;
    next = next_longer;
    shut = shut_longer;
  }

-- time passes
pub later : {v : BlockView} {N clock now : ℕ} → Linked v N clock → clock ≤ now → Linked v N now
later i l = record {
  first = i.first;
  last = i.last;
  childless = i.childless;
  row = i.row;
  next = i.next;
  opened = λ n a b. omega (arith, i.opened n a b);
  shut = λ n a o.
      let r = i.shut n a o in
      record { inner = r.inner; after = r.after; past = omega arith; up = r.up; tree = r.tree; top = r.top; under = r.under };
}
