-- THE BOOK THAT A STORE SHOWS: its blocks with their seconds and records. A record stands in it if its block is open and it has not ended: what is
-- unended in a closed block has still to move, and the book has it ended. Each part of a change is a step of the block book. What the book says: how many
-- blocks and records, the standing tags of a block, and the block that holds a tag.
use Rattle.std.specs.Prelude.{◌≡◌, refl, ◌≢◌, Bool, true, false, cond, not, ◌&&◌, List, [], ◌∷◌, ◌++◌, map, ℕ, ◌+◌, ◌-◌, ◌≤◌, ◌<◌, ◌*◌, eqb, length}
use Rattle.std.proofs.Common.{sym, ap, ap₂, ◌∙◌, arith, eqb-true, ne_eqb, eq-eqb}
use Rattle.std.proofs.Math.Bool.{and-false}
use Rattle.std.proofs.lemmas.Bool.{eqb-false}
use Rattle.base.specs.Branch.{is?, by_test, cond_all, and-true, and_is}
use Rattle.base.specs.Ones.{Lists, none, more}
use Rattle.layout.specs.declared.settings.Settings.{Settings}
use Rattle.layout.specs.Sizes.{OPEN}
use Rattle.calls.specs.Book.{Entry, Block, Book, opens_at, on_block, closes_at, appends, ends_tag, ends_in, standing_tags, entries_of, last_of, holds, holder_of, records_in}
use Rattle.theory.specs.Row.{Unlinked, Opened, BlockView}
use Rattle.theory.specs.Records.{Record, Records, ended_at, begun_at, Apart, place?, PutAt, Emptied}
use Rattle.theory.specs.State.{Shape, relinked_shape, rewritten, appended, opened_shape}
use Rattle.theory.specs.BookLaws.{noted, tabulate, tabulate_none, tabulate_same, tabulate_more, ended_table, ends_table, on_table, opens_table}
use Rattle.theory.specs.BookLaws.{last_table, length_tabulate, holds_table, lacks_table, standing_table, entries_table, holder_table}
use Rattle.theory.specs.BookLaws.{records_table}
use Rattle.theory.specs.Marks.{Pending, no_more, one_more}

module _ (S : Shape) where
  abbrev pub entry_of : ℕ → ℕ → Entry
  entry_of n k = record { tag = (S.records n k).tag; stands = eqb (S.view.closed n) OPEN && eqb (S.records n k).to OPEN }

module _ (b : ℕ) (S : Shape) where
  -- how many records block n has
  abbrev pub size_of : ℕ → ℕ
  size_of n = cond (eqb n S.opened) S.fill b

  abbrev pub block_at : ℕ → Block
  block_at n = record { opened = S.view.opened n; closed = S.view.closed n; entries = tabulate (size_of n) (entry_of S n) }

  -- block n of the store is number n − 1 of the book
  abbrev pub blocks_of : List Block
  blocks_of = tabulate S.opened (λ i. block_at (i + 1))

-- with these settings
abbrev pub blocks_in : Settings → Shape → List Block
blocks_in s S = blocks_of s.block S

abbrev pub book_of : Settings → Shape → Book
book_of s S = record { b = s.block; q = s.useful; blocks = blocks_in s S }

-- ---- alike
pub entry_same : (S T : Shape) (n k : ℕ) → T.view.closed n ≡ S.view.closed n → T.records n k ≡ S.records n k → entry_of T n k ≡ entry_of S n k
entry_same S T n k c e = λ i. record { tag = (e i).tag; stands = eqb (c i) OPEN && eqb (e i).to OPEN }

block_same : (b : ℕ) (S T : Shape) (n : ℕ) → T.view.opened n ≡ S.view.opened n → T.view.closed n ≡ S.view.closed n
    → size_of b T n ≡ size_of b S n
    → ((k : ℕ) → k < size_of b T n → entry_of T n k ≡ entry_of S n k) → block_at b T n ≡ block_at b S n
block_same b S T n o c z h = λ i. record {
  opened = o i;
  closed = c i;
  entries = (tabulate_same (size_of b T n) h ∙ ap (λ (m : ℕ). tabulate m (entry_of S n)) z) i;
}

-- the acceptor's size, and the others'
pub last_size : (b : ℕ) (S : Shape) (n : ℕ) → n ≡ S.opened → size_of b S n ≡ S.fill
last_size b S n e = rw (eq-eqb n S.opened e)

pub full_size : (b : ℕ) (S : Shape) (n : ℕ) → n ≢ S.opened → size_of b S n ≡ b
full_size b S n d = rw (ne_eqb n S.opened d)

-- ---- a block opens
pub book_opens : (b : ℕ) (S : Shape) {w : BlockView} {records : Records} {now : ℕ} → Opened S.view w S.opened now → Emptied S.records records (S.opened + 1)
    → (1 ≤ S.opened → S.fill ≡ b) → blocks_of b (opened_shape S w S.times records S.marks) ≡ opens_at now (blocks_of b S)
book_opens b S {w} {records} {now} e m full = opens_table S.opened now old last
  where
    T : Shape
    T = opened_shape S w S.times records S.marks

    old : (i : ℕ) → i < S.opened → block_at b T (i + 1) ≡ block_at b S (i + 1)
    old i h =
        let d : i + 1 ≢ S.opened + 1 = omega arith in
        let o = e.closed.other (i + 1) d in
        let size : size_of b S (i + 1) ≡ b =
        is? (i + 1) S.opened (λ y. last_size b S (i + 1) y ∙ full (omega arith)) (λ y. full_size b S (i + 1) y) in
        block_same b S T (i + 1) (e.opened.other (i + 1) d) o (full_size b T (i + 1) d ∙ sym size)
        (λ k a. entry_same S T (i + 1) k o (m.other (i + 1) k d))

    empty : tabulate (size_of b T (S.opened + 1)) (entry_of T (S.opened + 1)) ≡ []
    empty =
        ap (λ (k : ℕ). tabulate k (entry_of T (S.opened + 1))) (last_size b T (S.opened + 1) refl) ∙ tabulate_none (entry_of T (S.opened + 1))

    last : block_at b T (S.opened + 1) ≡ record { opened = now; closed = OPEN; entries = [] }
    last = λ i. record { opened = e.opened.here i; closed = e.closed.here i; entries = empty i }

-- ---- block n changes, and no other
on_book : (b : ℕ) (S T : Shape) (n : ℕ) (f : Block → Block) → 1 ≤ n → T.opened ≡ S.opened → block_at b T n ≡ f (block_at b S n)
    → ((m : ℕ) → m ≢ n → block_at b T m ≡ block_at b S m) → blocks_of b T ≡ on_block (n - 1) f (blocks_of b S)
on_book b S T n f low same here other =
    let number : n - 1 + 1 ≡ n = omega arith in
    ap (λ (m : ℕ). tabulate m (λ i. block_at b T (i + 1))) same
    ∙ on_table S.opened (n - 1) f (λ a. rw number here) (λ j a d. other (j + 1) (omega arith))

-- ---- a record goes to the end of the acceptor
pub book_appends : (b : ℕ) (S : Shape) (records : Records) (r : Record) → 1 ≤ S.opened → S.view.closed S.opened ≡ OPEN → r.to ≡ OPEN
    → records S.opened S.fill ≡ r → let T = appended S records S.marks S.directory in
    ((m j : ℕ) → Apart S.opened S.fill m j → entry_of T m j ≡ entry_of S m j) → blocks_of b T ≡ appends r.tag (blocks_of b S)
book_appends b S records r some o stands here other =
    on_book b S T S.opened (noted r.tag) some refl (λ i. record { opened = S.view.opened S.opened; closed = S.view.closed S.opened; entries = entries i })
    (λ m d. block_same b S T m refl refl (full_size b T m d ∙ sym (full_size b S m d)) (λ k a. other m k (λ z. d z.0)))
    ∙ ap (λ (i : ℕ). on_block i (noted r.tag) (blocks_of b S)) (sym (last_table S.opened (λ i. block_at b S (i + 1))))
  where
    T : Shape
    T = appended S records S.marks S.directory

    new : entry_of T S.opened S.fill ≡ record { tag = r.tag; stands = true }
    new =
        let t = eq-eqb (records S.opened S.fill).to OPEN (ap (λ (x : Record). x.to) here ∙ stands) in
        λ i. record { tag = (here i).tag; stands = ap₂ ◌&&◌ (eq-eqb (S.view.closed S.opened) OPEN o) t i }

    entries : tabulate (size_of b T S.opened) (entry_of T S.opened)
        ≡ tabulate (size_of b S S.opened) (entry_of S S.opened) ++ (record { tag = r.tag; stands = true } ∷ [])
    entries =
        ap (λ (k : ℕ). tabulate k (entry_of T S.opened)) (last_size b T S.opened refl)
        ∙ tabulate_more S.fill (λ k a. other S.opened k (λ z. omega arith))
        ∙ ap₂ (λ (k : ℕ) (e : Entry). tabulate k (entry_of S S.opened) ++ (e ∷ [])) (sym (last_size b S S.opened refl)) new

-- ---- a record of a closed block moves there: in its old place the book had it ended
pub book_moves : (b : ℕ) (S : Shape) {middle records : Records} {x k now : ℕ} → 1 ≤ S.opened → S.view.closed S.opened ≡ OPEN
    → S.view.closed x ≢ OPEN → PutAt S.records middle x k (ended_at now (S.records x k))
    → PutAt middle records S.opened S.fill (begun_at now (S.records x k))
    → blocks_of b (appended S records S.marks S.directory) ≡ appends (S.records x k).tag (blocks_of b S)
book_moves b S {records = records} {x} {k} {now} some o c e p =
    book_appends b S records (begun_at now (S.records x k)) some o refl p.here (λ m j d. place? x k m j
    (λ y z.
    let r : records m j ≡ ended_at now (S.records m j) = p.other m j d ∙ rw (y, z) e.here in
    let f : eqb (S.view.closed m) OPEN ≡ false = ne_eqb (S.view.closed m) OPEN (rw y c) in
    let same : (eqb (S.view.closed m) OPEN && eqb (records m j).to OPEN) ≡ (entry_of S m j).stands = rw f in
    λ i. record { tag = (r i).tag; stands = same i })
    (λ y. entry_same S (appended S records S.marks S.directory) m j refl (p.other m j d ∙ e.other m j y)))

-- ---- a block closes: all that stood in it ends
pub book_closes : (b : ℕ) (S : Shape) {w : BlockView} {x now : ℕ} → Unlinked S.view w x now → now < OPEN → 1 ≤ x
    → blocks_of b (relinked_shape S w) ≡ on_block (x - 1) (closes_at now) (blocks_of b S)
book_closes b S {w} {x} {now} e ends some =
    let T = relinked_shape S w in
    let c : eqb (w.closed x) OPEN ≡ false = ne_eqb (w.closed x) OPEN (omega (arith, e.closed.here)) in
    let all = ended_table (size_of b S x) (entry_of S x) {f = entry_of T x}
    (λ k a. λ i. record { tag = (S.records x k).tag; stands = ap (λ (t : Bool). t && eqb (S.records x k).to OPEN) c i }) in
    on_book b S T x (closes_at now) some refl (λ i. record { opened = e.opened x i; closed = e.closed.here i; entries = all i })
    (λ m d. let o = e.closed.other m d in block_same b S T m (e.opened m) o refl (λ k a. entry_same S T m k o refl))

-- ---- a record ends that stands alone with its tag
pub book_ends : (b : ℕ) (S : Shape) {records : Records} {n k now : ℕ} → PutAt S.records records n k (ended_at now (S.records n k)) → now < OPEN → 1 ≤ n
    → ((j : ℕ) → (S.records n j).to ≡ OPEN → (S.records n j).tag ≡ (S.records n k).tag → j ≡ k)
    → blocks_of b (rewritten S S.fill records S.marks S.directory) ≡ on_block (n - 1) (ends_in (S.records n k).tag) (blocks_of b S)
book_ends b S {records} {n} {k} {now} e ends some alone =
    on_book b S T n (ends_in tag) some refl (λ i. record { opened = S.view.opened n; closed = S.view.closed n; entries = all i })
    (λ m d. block_same b S T m refl refl refl (λ j a. entry_same S T m j refl (e.other m j (λ z. d z.0))))
  where
    tag : ℕ
    tag = (S.records n k).tag

    T : Shape
    T = rewritten S S.fill records S.marks S.directory

    and_not : (c t u : Bool) → (t ≡ true → u ≡ true → ⊥) → (c && t) ≡ (c && t && not u)
    and_not true true true d = absurd (d refl refl)
    and_not true true false d = refl
    and_not true false u d = refl
    and_not false t u d = refl

    entry : (j : ℕ) → entry_of T n j ≡ record { tag = (entry_of S n j).tag; stands = (entry_of S n j).stands && not (eqb (entry_of S n j).tag tag) }
    entry j = is? j k
        (λ y.
        let r : records n j ≡ ended_at now (S.records n j) = rw y e.here in
        let t : eqb (records n j).to OPEN ≡ false = ap (λ (x : Record). eqb x.to OPEN) r ∙ ne_eqb now OPEN (omega arith) in
        let u : eqb (S.records n j).tag tag ≡ true = eq-eqb (S.records n j).tag tag (rw y) in
        let f : (entry_of T n j).stands ≡ ((entry_of S n j).stands && not (eqb (S.records n j).tag tag)) = simp (t, u, and-false) in
        λ i. record { tag = (r i).tag; stands = f i })
        (λ y.
        let f = and_not (eqb (S.view.closed n) OPEN) (eqb (S.records n j).to OPEN) (eqb (S.records n j).tag tag)
        (λ s t. y (alone j (eqb-true (S.records n j).to OPEN s) (eqb-true (S.records n j).tag tag t))) in
        entry_same S T n j refl (e.other n j (λ z. y z.1)) ∙ (λ i. record { tag = (S.records n j).tag; stands = f i }))

    all : tabulate (size_of b S n) (entry_of T n) ≡ ends_tag tag (tabulate (size_of b S n) (entry_of S n))
    all = ends_table (size_of b S n) tag (entry_of S n) (λ j a. entry j)

-- ---- WHAT THE BOOK SAYS
module _ (b : ℕ) (S : Shape) where
  -- ---- blocks and records
  pub book_length : length (blocks_of b S) ≡ S.opened
  book_length = length_tabulate S.opened (λ i. block_at b S (i + 1))

  pub book_entries : (n : ℕ) → 1 ≤ n → n ≤ S.opened → entries_of (n - 1) (blocks_of b S) ≡ tabulate (size_of b S n) (entry_of S n)
  book_entries n low high =
      let number : n - 1 + 1 ≡ n = omega arith in
      entries_table S.opened (n - 1) (λ i. block_at b S (i + 1)) (omega arith) ∙ ap (λ (m : ℕ). tabulate (size_of b S m) (entry_of S m)) number

  pub book_last : last_of (blocks_of b S) ≡ S.opened - 1
  book_last = last_table S.opened (λ i. block_at b S (i + 1))

  -- the last block has as many records as the acceptor
  pub book_fill : 1 ≤ S.opened → length (entries_of (last_of (blocks_of b S)) (blocks_of b S)) ≡ S.fill
  book_fill some =
      ap (λ (i : ℕ). length (entries_of i (blocks_of b S))) book_last
      ∙ ap length (book_entries S.opened some (omega arith)) ∙ length_tabulate (size_of b S S.opened) (entry_of S S.opened)
      ∙ last_size b S S.opened refl

  pub book_records : records_in (blocks_of b S) ≡ cond (eqb S.opened 0) 0 ((S.opened - 1) * b + S.fill)
  book_records = cond_all (λ (r : ℕ). records_in (blocks_of b S) ≡ r) (eqb S.opened 0)
      (λ e. ap records_in (ap (λ (n : ℕ). tabulate n (λ i. block_at b S (i + 1))) (eqb-true S.opened 0 e)
      ∙ tabulate_none (λ i. block_at b S (i + 1))))
      (λ e.
      let number : S.opened - 1 + 1 ≡ S.opened = omega (arith, eqb-false S.opened 0 e) in
      let size : (n : ℕ) → length (block_at b S n).entries ≡ size_of b S n = λ n. length_tabulate (size_of b S n) (entry_of S n) in
      records_table S.opened b (λ i. block_at b S (i + 1)) (omega arith) (λ i h. size (i + 1) ∙ full_size b S (i + 1) (omega arith))
      ∙ ap (λ (k : ℕ). (S.opened - 1) * b + k) (size (S.opened - 1 + 1) ∙ last_size b S (S.opened - 1 + 1) number))

  -- ---- tags
  -- the standing tags of an open block that is not the last, in order, are those of its unended records
  pub book_tags : (n : ℕ) {l : List ℕ} → 1 ≤ n → n < S.opened → S.view.closed n ≡ OPEN → ((k : ℕ) → (S.records n k).to ≡ OPEN → k < b)
      → Pending S.records n 0 l → standing_tags (entries_of (n - 1) (blocks_of b S)) ≡ map (λ k. (S.records n k).tag) l
  book_tags n {l} low high o slot h =
      ap standing_tags (book_entries n low (omega arith) ∙ ap (λ (m : ℕ). tabulate m (entry_of S n)) (full_size b S n (omega arith)))
      ∙ standing_table b (entry_of S n) (lists h)
    where
      stands : (k : ℕ) → (S.records n k).to ≡ OPEN → (entry_of S n k).stands ≡ true
      stands k e = and_is (eq-eqb (S.view.closed n) OPEN o) (eq-eqb (S.records n k).to OPEN e)

      unended : (k : ℕ) → (entry_of S n k).stands ≡ true → (S.records n k).to ≡ OPEN
      unended k e = eqb-true (S.records n k).to OPEN (and-true (eqb (S.view.closed n) OPEN) (eqb (S.records n k).to OPEN) e).1

      lists : {lo : ℕ} {m : List ℕ} → Pending S.records n lo m → Lists (λ k. (entry_of S n k).stands ≡ true) lo b m
      lists {lo} (no_more g) = none {lo = lo} {hi = b} (λ k a c e. g k a (unended k e))
      lists (one_more {k = k} a e g r) = more a (slot k e) (stands k e) (λ j d f u. g j d f (unended j u)) (lists r)

  -- the tag of an unended record of an open block is held there, if no other block has an unended record with it
  pub book_holder : (n k : ℕ) → 1 ≤ n → n ≤ S.opened → k < size_of b S n → S.view.closed n ≡ OPEN → (S.records n k).to ≡ OPEN
      → ((m j : ℕ) → (S.records m j).to ≡ OPEN → (S.records m j).tag ≡ (S.records n k).tag → m ≡ n)
      → holder_of (S.records n k).tag (blocks_of b S) ≡ n - 1
  book_holder n k low high size o e alone =
      let tag = (S.records n k).tag in
      let number : n - 1 + 1 ≡ n = omega arith in
      let here : holds tag (tabulate (size_of b S n) (entry_of S n)) ≡ true =
      holds_table (size_of b S n) k tag (entry_of S n) size (and_is (eq-eqb (S.view.closed n) OPEN o) (eq-eqb (S.records n k).to OPEN e)) refl in
      holder_table S.opened (n - 1) tag (λ i. block_at b S (i + 1)) (omega arith) (rw number here)
      (λ i h. lacks_table (size_of b S (i + 1)) tag (entry_of S (i + 1)) (λ j a.
      by_test ((entry_of S (i + 1) j).stands && eqb (S.records (i + 1) j).tag tag) (λ t. t ≡ false)
      (λ t.
      let both = and-true (entry_of S (i + 1) j).stands (eqb (S.records (i + 1) j).tag tag) t in
      let ends = (and-true (eqb (S.view.closed (i + 1)) OPEN) (eqb (S.records (i + 1) j).to OPEN) both.0).1 in
      let m = alone (i + 1) j (eqb-true (S.records (i + 1) j).to OPEN ends) (eqb-true (S.records (i + 1) j).tag tag both.1) in
      absurd (omega arith))
      (λ t. refl)))
