-- HOW MANY RECORDS ARE WRITTEN: in the block book, records × (b − q + 1) ≤ b × accepted sets and new readings. A set or new reading writes
-- one record, and a closing at most q − 1 copies; a closed block has b records, so that full blocks pay for the copies. No store is looked at.
use Rattle.std.specs.Prelude.{◌≡◌, refl, ◌≢◌, Bool, true, false, cond, not, ◌&&◌, eqb, ltb, length}
use Rattle.std.proofs.Common.{sym, ap, ◌∙◌, arith, zero-mul, mul-add, add-mul, mul_comm, mul_right_comm, mul-le-mul_right, length-append}
use mathlib.Core.List.{List, [], ◌∷◌, ◌++◌}
use Prim.Native.Nat.{ℕ, zero, suc, ◌+◌, ◌*◌, ◌-◌, ◌≤◌, ◌<◌}
use borrow.Author.Tests.{eqb-true, eqb-false, ne_eqb, eq-eqb, ltb-true}
use Rattle.base.specs.Branch.{cond_all, is?, cmp?}
use Rattle.base.specs.Sums.{All, nil, cons, all_append, all_map, total, totals}
use Rattle.layout.specs.Sizes.{OPEN}
use Rattle.layout.specs.declared.settings.Settings.{Settings}
use Rattle.calls.specs.Book.{Entry, Block, Book, empty_book, standing_tags, ended, opens_at, on_block, entries_of, closes_at, last_of, appends, in_order}
use Rattle.calls.specs.Book.{judges, writes, layers}
use Rattle.calls.specs.Book.{holder_of, ends_tag, ends_in, book_set, book_clear, book_update, records_in}
use Rattle.theory.specs.BookLaws.{noted, on_before, on_end, on_beyond, last_is, appends_last, entries_last, on_length, ended_length}
use Rattle.theory.specs.BookLaws.{ends_length, records_append}
use Rattle.theory.specs.Layers.{Write}

-- 1 for a closed block
abbrev pub closed_one : Block → ℕ
closed_one k = cond (eqb k.closed OPEN) 0 1

abbrev pub closed_in : List Block → ℕ
closed_in = total closed_one

-- ---- what holds of every book: the last block is open, those before it are full, and in a closed one nothing stands
abbrev pub Calm : Block → Type 0
Calm k = k.closed ≢ OPEN → length (standing_tags k.entries) ≡ 0

pub record Past (b : ℕ) (k : Block) : Type 0 where
  pub full : b ≤ length k.entries
  pub calm : Calm k

pub data Tidy (b : ℕ) : List Block → Type 0 where
  none : Tidy b []
  some : (l : List Block) (k : Block) → All (Past b) l → k.closed ≡ OPEN → Tidy b (l ++ (k ∷ []))

-- with `due` records more the book is still within `sets` and q − 1 for each closed block
pub record Ledger (b q sets due : ℕ) (blocks : List Block) : Type 0 where
  pub tidy : Tidy b blocks
  pub bound : records_in blocks + due ≤ sets + closed_in blocks * (q - 1)

-- ---- the sums of a book

records_total : (l : List Block) → records_in l ≡ total (λ k. length k.entries) l
records_total [] = simp totals
records_total (k ∷ l) = simp totals (omega (arith, records_total l))

total_on : (w : Block → ℕ) (i : ℕ) (f : Block → Block) → ((k : Block) → w (f k) ≡ w k) → (l : List Block) → total w (on_block i f l) ≡ total w l
total_on w i f h [] = refl
total_on w zero f h (k ∷ l) = simp totals (omega (arith, h k))
total_on w (suc i) f h (k ∷ l) = simp totals (omega (arith, total_on w i f h l))

records_on : (i : ℕ) (f : Block → Block) → ((k : Block) → length (f k).entries ≡ length k.entries) → (l : List Block)
    → records_in (on_block i f l) ≡ records_in l
records_on i f h l = records_total (on_block i f l) ∙ total_on (λ k. length k.entries) i f h l ∙ sym (records_total l)

-- ---- the standing records

ended_none : (l : List Entry) → length (standing_tags (ended l)) ≡ 0
ended_none [] = refl
ended_none (e ∷ l) = ended_none l

ends_fewer : (tag : ℕ) (l : List Entry) → length (standing_tags (ends_tag tag l)) ≤ length (standing_tags l)
ends_fewer tag [] = omega arith
ends_fewer tag (e ∷ l) = go e.stands (not (eqb e.tag tag)) (standing_tags (ends_tag tag l)) (standing_tags l) (ends_fewer tag l)
  where
    go : (a c : Bool) (m n : List ℕ) → length m ≤ length n → length (cond (a && c) (e.tag ∷ m) m) ≤ length (cond a (e.tag ∷ n) n)
    go true true m n h = omega arith
    go true false m n h = omega arith
    go false c m n h = h

-- ---- a tidy book stays tidy

-- block i of a book that ends in k: before k, k itself, or none
on? : (P : List Block → Type 0) (i : ℕ) (f : Block → Block) (l : List Block) (k : Block) → (i < length l → P (on_block i f l ++ (k ∷ [])))
    → (i ≡ length l → P (l ++ (f k ∷ []))) → P (l ++ (k ∷ [])) → P (on_block i f (l ++ (k ∷ [])))
on? P i f l k before here beyond = cmp? i (length l)
    (λ h. rw (on_before i f l (k ∷ []) h) (before h))
    (λ h. rw (h, on_end) (here h))
    (λ h. let e : on_block i f (l ++ (k ∷ [])) ≡ l ++ (k ∷ []) = on_beyond i f (l ++ (k ∷ [])) (rw length-append (omega arith)) in rw e beyond)

on_all : {P : Block → Type 0} (i : ℕ) (f : Block → Block) → ((k : Block) → P k → P (f k)) → {l : List Block} → All P l → All P (on_block i f l)
on_all i f h nil = nil
on_all zero f h (cons {x} p a) = cons (h x p) a
on_all (suc i) f h (cons p a) = cons p (on_all i f h a)

module _ {b : ℕ} where
  tidy_ends : (i tag : ℕ) {blocks : List Block} → Tidy b blocks → Tidy b (on_block i (ends_in tag) blocks)
  tidy_ends i tag none = none
  tidy_ends i tag (some l k past o) = on? (Tidy b) i (ends_in tag) l k
      (λ h. some (on_block i (ends_in tag) l) k (on_all i (ends_in tag) kept past) o) (λ h. some l (ends_in tag k) past o) (some l k past o)
    where
      kept : (x : Block) → Past b x → Past b (ends_in tag x)
      kept x p = record {
        full = omega (arith, p.full, ends_length tag x.entries);
        calm = λ d. omega (arith, p.calm d, ends_fewer tag x.entries);
      }

  tidy_closes : (i s : ℕ) {blocks : List Block} → i ≢ last_of blocks → Tidy b blocks → Tidy b (on_block i (closes_at s) blocks)
  tidy_closes i s d none = none
  tidy_closes i s d (some l k past o) = on? (Tidy b) i (closes_at s) l k
      (λ h. some (on_block i (closes_at s) l) k (on_all i (closes_at s) kept past) o) (λ h. absurd (d (h ∙ sym (last_is l k)))) (some l k past o)
    where
      kept : (x : Block) → Past b x → Past b (closes_at s x)
      kept x p = record { full = omega (arith, p.full, ended_length x.entries); calm = λ c. ended_none x.entries }

  tidy_appends : (tag : ℕ) {blocks : List Block} → Tidy b blocks → Tidy b (appends tag blocks)
  tidy_appends tag none = none
  tidy_appends tag (some l k past o) = rw (appends_last tag l k) (some l (noted tag k) past o)

  -- a full last block becomes one of those before the last
  tidy_opens : (s : ℕ) {blocks : List Block} → (0 < length blocks → b ≤ length (entries_of (last_of blocks) blocks)) → Tidy b blocks
      → Tidy b (opens_at s blocks)
  tidy_opens s h none = some [] (record { opened = s; closed = OPEN; entries = [] }) nil refl
  tidy_opens s h (some l k past o) =
      let p : Past b k = record { full = rw (entries_last l k) at (h (rw length-append (omega arith))); calm = λ d. absurd (d o) } in
      some (l ++ (k ∷ [])) (record { opened = s; closed = OPEN; entries = [] }) (all_append past (cons p nil)) refl

  tidy_calm : {blocks : List Block} → Tidy b blocks → All Calm blocks
  tidy_calm none = nil
  tidy_calm (some l k past o) =
      let c : Calm k = λ d. absurd (d o) in
      all_append (all_map (λ x p. p.calm) past) (cons c nil)

-- ---- the count of each step

-- closing a block pays for what stood in it, up to a: if something stood, the block was open
close_pays : (a s i : ℕ) {l : List Block} → s ≢ OPEN → All Calm l → length (standing_tags (entries_of i l)) ≤ a
    → closed_in l * a + length (standing_tags (entries_of i l)) ≤ closed_in (on_block i (closes_at s) l) * a
close_pays a s i d nil h = omega arith
close_pays a s zero d (cons {x} {l} c r) h =
    let e : closed_one (closes_at s x) ≡ 1 = simp (ne_eqb s OPEN d) in
    simp (totals, e, add-mul) (is? x.closed OPEN
    (λ y. simp (eq-eqb x.closed OPEN y) (omega arith))
    (λ y. simp (ne_eqb x.closed OPEN y) (omega (arith, c y))))
close_pays a s (suc i) d (cons {x} {l} c r) h = simp (totals, add-mul) (omega (arith, close_pays a s i d r h))

-- a write that costs one record
record Costs (b q sets : ℕ) (write : Write) : Type 0 where
  one : (tag due : ℕ) (blocks : List Block) → Ledger b q sets (due + 1) blocks → Ledger b q sets due (write tag blocks)

module _ {b q sets : ℕ} where
  ends_ledger : (i tag : ℕ) {due : ℕ} (blocks : List Block) → Ledger b q sets due blocks → Ledger b q sets due (on_block i (ends_in tag) blocks)
  ends_ledger i tag blocks g = record {
    tidy = tidy_ends i tag g.tidy;
    bound = rw (records_on i (ends_in tag) (λ k. ends_length tag k.entries) blocks, total_on closed_one i (ends_in tag) (λ k. refl) blocks)
        g.bound;
  }

  appends_ledger : (tag : ℕ) {due : ℕ} (blocks : List Block) → Ledger b q sets (due + 1) blocks → Ledger b q sets due (appends tag blocks)
  appends_ledger tag blocks g = record {
    tidy = tidy_appends tag g.tidy;
    bound = rw (total_on closed_one (last_of blocks) (noted tag) (λ k. refl) blocks) (omega (arith, g.bound, one_more (last_of blocks) blocks));
  }
    where
      one_more : (i : ℕ) (l : List Block) → records_in (on_block i (noted tag) l) ≤ records_in l + 1
      one_more i [] = omega arith
      one_more zero (k ∷ l) = omega (arith, length-append k.entries (record { tag = tag; stands = true } ∷ []))
      one_more (suc i) (k ∷ l) = omega (arith, one_more i l)

  opens_ledger : (s : ℕ) {due : ℕ} (blocks : List Block) → (0 < length blocks → b ≤ length (entries_of (last_of blocks) blocks))
      → Ledger b q sets due blocks
      → Ledger b q sets due (opens_at s blocks)
  opens_ledger s blocks h g =
      let new : Block = record { opened = s; closed = OPEN; entries = [] } in
      let e : records_in (opens_at s blocks) ≡ records_in blocks = records_append blocks (new ∷ []) ∙ omega arith in
      let f : closed_in (opens_at s blocks) ≡ closed_in blocks = simp totals (omega arith) in
      record { tidy = tidy_opens s h g.tidy; bound = rw (e, f) g.bound }

  closes_ledger : (i s : ℕ) {due : ℕ} (blocks : List Block) → s ≢ OPEN → i ≢ last_of blocks → length (standing_tags (entries_of i blocks)) ≤ q - 1
      → Ledger b q sets due blocks → Ledger b q sets (due + length (standing_tags (entries_of i blocks))) (on_block i (closes_at s) blocks)
  closes_ledger i s blocks d c h g = record {
    tidy = tidy_closes i s c g.tidy;
    bound = omega (
      arith,
      g.bound,
      records_on i (closes_at s) (λ k. ended_length k.entries) blocks,
      close_pays (q - 1) s i d (tidy_calm g.tidy) h,
    );
  }

  order_ledger : (write : Write) → Costs b q sets write → (tags : List ℕ) (due : ℕ) (blocks : List Block) → Ledger b q sets (due + length tags) blocks
      → Ledger b q sets due (in_order write tags blocks)
  order_ledger write w [] due blocks g = record { tidy = g.tidy; bound = omega (arith, g.bound) }
  order_ledger write w (tag ∷ tags) due blocks g =
      order_ledger write w tags due (write tag blocks)
      (w.one tag (due + length tags) blocks (record { tidy = g.tidy; bound = omega (arith, g.bound) }))

  -- judging costs nothing: the closed block pays for the copies
  judge_ledger : (write : Write) → Costs b q sets write → (s i due : ℕ) (blocks : List Block) → s ≢ OPEN → i ≢ last_of blocks
      → Ledger b q sets due blocks
      → Ledger b q sets due (judges write q s i blocks)
  judge_ledger write w s i due blocks d c g =
      let tags = standing_tags (entries_of i blocks) in
      cond_all (Ledger b q sets due) (ltb (length tags) q)
      (λ t. order_ledger write w tags due (on_block i (closes_at s) blocks)
      (closes_ledger i s blocks d c (omega (arith, ltb-true (length tags) q t)) g))
      (λ t. g)

  write_ledger : (n s : ℕ) → s ≢ OPEN → Costs b q sets (writes n b q s)
  unfolding writes
  write_ledger zero s d = record { one = λ tag due blocks g. appends_ledger tag blocks g }
  write_ledger (suc n) s d = record {
    one = λ tag due blocks g. appends_ledger tag _
        (cond_all (Ledger b q sets (due + 1)) (eqb (length blocks) 0)
        (λ e. opens_ledger s blocks (λ h. absurd (omega (arith, eqb-true (length blocks) 0 e))) g)
        (λ e. cond_all (Ledger b q sets (due + 1)) (eqb (length (entries_of (last_of blocks) blocks)) b)
        (λ f. judge_ledger (writes n b q s) (write_ledger n s d) s (last_of blocks) (due + 1) (opens_at s blocks) d
        (λ z. omega (arith, eqb-false (length blocks) 0 e, last_is blocks (record { opened = s; closed = OPEN; entries = [] })))
        (opens_ledger s blocks (λ h. omega (arith, eqb-true (length (entries_of (last_of blocks) blocks)) b f)) g))
        (λ f. g)));
  }

-- ---- a book and the accepted sets and new readings that went into it
pub record Counted (sets : ℕ) (k : Book) : Type 0 where
  pub ledger : Ledger k.b k.q sets 0 k.blocks

pub counted_empty : (s : Settings) → Counted 0 (empty_book s)
counted_empty s = record { ledger = record { tidy = none; bound = omega arith } }

pub counted_set : (s tag : ℕ) {sets : ℕ} {k : Book} → s ≢ OPEN → Counted sets k → Counted (sets + 1) (book_set s tag k)
counted_set s tag {sets} {k} d c =
    let g : Ledger k.b k.q (sets + 1) (0 + 1) k.blocks = record { tidy = c.ledger.tidy; bound = omega (arith, c.ledger.bound) } in
    record { ledger = (write_ledger layers s d).one tag 0 k.blocks g }

pub counted_clear : (s tag : ℕ) {sets : ℕ} {k : Book} → s ≢ OPEN → Counted sets k → Counted sets (book_clear s tag k)
counted_clear s tag {sets} {k} d c =
    let i = holder_of tag k.blocks in
    let after = on_block i (ends_in tag) k.blocks in
    let g = ends_ledger i tag k.blocks c.ledger in
    record {
      ledger = cond_all (Ledger k.b k.q sets 0) (eqb i (last_of k.blocks))
          (λ e. g)
          (λ e. judge_ledger (writes layers k.b k.q s) (write_ledger layers s d) s i 0 after d
          (λ z. eqb-false i (last_of k.blocks) e (z ∙ ap (λ (n : ℕ). n - 1) (on_length i (ends_in tag) k.blocks))) g);
    }

pub counted_update : (s tag : ℕ) {sets : ℕ} {k : Book} → s ≢ OPEN → Counted sets k → Counted (sets + 1) (book_update s tag k)
counted_update s tag d c = counted_set s tag d (counted_clear s tag d c)

-- ---- the bound

-- the closed blocks are full
closed_full : {b : ℕ} {l : List Block} → All (Past b) l → closed_in l * b ≤ records_in l
closed_full nil = simp (totals, zero-mul) (omega arith)
closed_full {b} (cons {x} {l} p r) =
    let one : closed_one x * b ≤ b = cond_all (λ (n : ℕ). n * b ≤ b) (eqb x.closed OPEN) (λ e. omega arith) (λ e. omega arith) in
    simp (totals, add-mul) (omega (arith, p.full, closed_full r))

tidy_full : {b : ℕ} {blocks : List Block} → Tidy b blocks → closed_in blocks * b ≤ records_in blocks
tidy_full none = simp (totals, zero-mul) (omega arith)
tidy_full {b} (some l k past o) =
    let e : closed_in (l ++ (k ∷ [])) ≡ closed_in l = simp (totals, eq-eqb k.closed OPEN o) (omega arith) in
    rw e (omega (arith, closed_full past, records_append l (k ∷ [])))

-- records written × (b − q + 1) ≤ b × accepted sets and new readings
pub counted_bound : {sets : ℕ} {k : Book} → 1 ≤ k.q → k.q ≤ k.b → Counted sets k → records_in k.blocks * (k.b - k.q + 1) ≤ k.b * sets
counted_bound {sets} {k} low high c =
    let b = k.b in
    let a = k.q - 1 in
    let n = records_in k.blocks in
    let x = closed_in k.blocks in
    let most : n * b ≤ (sets + x * a) * b = mul-le-mul_right b (omega (arith, c.ledger.bound)) in
    let parts = add-mul sets (x * a) b in
    let turn : x * a * b ≡ x * b * a = mul_right_comm x a b in
    let paid : x * b * a ≤ n * a = mul-le-mul_right a (tidy_full c.ledger.tidy) in
    let split : n * (b - k.q + 1 + a) ≡ n * (b - k.q + 1) + n * a = mul-add n (b - k.q + 1) a in
    let whole : b - k.q + 1 + a ≡ b = omega arith in
    let all : n * b ≡ n * (b - k.q + 1) + n * a = rw whole at split in
    let other : b * sets ≡ sets * b = mul_comm b sets in
    omega arith
