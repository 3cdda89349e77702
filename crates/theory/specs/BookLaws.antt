-- WHAT THE BOOK'S STEPS DO: to a list that ends in a known block; and to a book as a table, a list by a function of its places, as steps on that function:
-- a law for a step names the function before and the function after, and asks only how they differ.
use Rattle.std.specs.Prelude.{◌≡◌, true, Bool, false, cond, not, ◌&&◌, ◌||◌, ◌≢◌, length, get_or, eqb, ltb, leb}
use Rattle.std.proofs.Math.Path.{refl, ap, ap₂}
use Rattle.std.proofs.Common.{◌∙◌, arith, zero-mul, suc-mul, add-one, length-append, eq-eqb}
use Rattle.std.proofs.Math.Bool.{or-true}
use mathlib.Core.List.{List, [], ◌∷◌, ◌++◌, map}
use Prim.Native.Nat.{ℕ, zero, suc, ◌+◌, ◌≤◌, ◌<◌, ◌*◌, ◌-◌}
use Rattle.base.specs.Branch.{cond_rel, is?}
use Rattle.base.specs.Ones.{Lists, none, more}
use Rattle.base.specs.Sums.{is, sum_to}
use Rattle.layout.specs.Sizes.{OPEN}
use Rattle.calls.specs.Book.{Entry, Block, ended, on_block, entries_of, last_of, appends, ends_tag, records_in, standing_tags, opens_at, holds, holder_of, openings, closings, open_at}

-- a block with the tag, standing, at the end of its records
abbrev pub noted : ℕ → Block → Block
noted tag k = record { opened = k.opened; closed = k.closed; entries = k.entries ++ (record { tag = tag; stands = true } ∷ []) }

-- ---- a block before the last ones
pub on_before : (i : ℕ) (f : Block → Block) (l m : List Block) → i < length l → on_block i f (l ++ m) ≡ on_block i f l ++ m
on_before i f [] m h = absurd (omega arith)
on_before zero f (k ∷ l) m h = refl
on_before (suc i) f (k ∷ l) m h = ap (λ (x : List Block). k ∷ x) (on_before i f l m (omega arith))

-- ---- the last
pub last_is : (l : List Block) (k : Block) → last_of (l ++ (k ∷ [])) ≡ length l
last_is l k = rw length-append (omega arith)

pub on_end : (f : Block → Block) (l : List Block) (k : Block) → on_block (length l) f (l ++ (k ∷ [])) ≡ l ++ (f k ∷ [])
on_end f [] k = refl
on_end f (x ∷ l) k = ap (λ (m : List Block). x ∷ m) (on_end f l k)

pub on_last : (f : Block → Block) (l : List Block) (k : Block) → on_block (last_of (l ++ (k ∷ []))) f (l ++ (k ∷ [])) ≡ l ++ (f k ∷ [])
on_last f l k = ap (λ (i : ℕ). on_block i f (l ++ (k ∷ []))) (last_is l k) ∙ on_end f l k

pub appends_last : (tag : ℕ) (l : List Block) (k : Block) → appends tag (l ++ (k ∷ [])) ≡ l ++ (noted tag k ∷ [])
appends_last tag l k = on_last (noted tag) l k

entries_end : (l : List Block) (k : Block) → entries_of (length l) (l ++ (k ∷ [])) ≡ k.entries
entries_end [] k = refl
entries_end (x ∷ l) k = entries_end l k

pub entries_last : (l : List Block) (k : Block) → entries_of (last_of (l ++ (k ∷ []))) (l ++ (k ∷ [])) ≡ k.entries
entries_last l k = ap (λ (i : ℕ). entries_of i (l ++ (k ∷ []))) (last_is l k) ∙ entries_end l k

-- ---- beyond all of them nothing changes, and there are no records
pub on_beyond : (i : ℕ) (f : Block → Block) (l : List Block) → length l ≤ i → on_block i f l ≡ l
on_beyond i f [] h = refl
on_beyond zero f (k ∷ l) h = absurd (omega arith)
on_beyond (suc i) f (k ∷ l) h = ap (λ (m : List Block). k ∷ m) (on_beyond i f l (omega arith))

-- ---- how many
pub on_length : (i : ℕ) (f : Block → Block) (l : List Block) → length (on_block i f l) ≡ length l
on_length i f [] = refl
on_length zero f (k ∷ l) = refl
on_length (suc i) f (k ∷ l) = ap suc (on_length i f l)

pub ended_length : (l : List Entry) → length (ended l) ≡ length l
ended_length [] = refl
ended_length (e ∷ l) = ap suc (ended_length l)

pub ends_length : (tag : ℕ) (l : List Entry) → length (ends_tag tag l) ≡ length l
ends_length tag [] = refl
ends_length tag (e ∷ l) = ap suc (ends_length tag l)

pub records_append : (l m : List Block) → records_in (l ++ m) ≡ records_in l + records_in m
records_append [] m = omega arith
records_append (k ∷ l) m = omega (arith, records_append l m)

-- ---- tables of anything

module _ {A : Type 0} where
  -- p 0, p 1, .., n of them
  unfoldable pub tabulate : ℕ → (ℕ → A) → List A
  tabulate zero p = []
  tabulate (suc n) p = p 0 ∷ tabulate n (λ i. p (suc i))

  pub tabulate_none : (p : ℕ → A) → tabulate 0 p ≡ []
  unfolding tabulate
  tabulate_none p = refl

  pub length_tabulate : (n : ℕ) (p : ℕ → A) → length (tabulate n p) ≡ n
  unfolding tabulate
  length_tabulate zero p = refl
  length_tabulate (suc n) p = ap suc (length_tabulate n (λ i. p (suc i)))

  pub tabulate_same : (n : ℕ) {p q : ℕ → A} → ((i : ℕ) → i < n → q i ≡ p i) → tabulate n q ≡ tabulate n p
  unfolding tabulate
  tabulate_same zero h = refl
  tabulate_same (suc n) h = ap₂ ◌∷◌ (h 0 (omega arith)) (tabulate_same n (λ i a. h (suc i) (omega arith)))

  -- one more, at the end
  pub tabulate_suc : (n : ℕ) (p : ℕ → A) → tabulate (suc n) p ≡ tabulate n p ++ (p n ∷ [])
  unfolding tabulate
  tabulate_suc zero p = refl
  tabulate_suc (suc n) p = ap (λ (l : List A). p 0 ∷ l) (tabulate_suc n (λ i. p (suc i)))

  pub tabulate_more : (n : ℕ) {p q : ℕ → A} → ((i : ℕ) → i < n → q i ≡ p i) → tabulate (n + 1) q ≡ tabulate n p ++ (q n ∷ [])
  tabulate_more n {p} {q} h = ap (λ (m : ℕ). tabulate m q) (add-one n) ∙ tabulate_suc n q ∙ ap (λ (l : List A). l ++ (q n ∷ [])) (tabulate_same n h)

  -- from lo on
  pub tabulate_from : (n lo : ℕ) (p : ℕ → A) → tabulate (suc n) (λ i. p (lo + i)) ≡ p lo ∷ tabulate n (λ i. p (lo + 1 + i))
  unfolding tabulate
  tabulate_from n lo p = ap₂ ◌∷◌ (ap p (omega arith)) (tabulate_same n (λ i a. ap p (omega arith)))

-- a test that is not true
refuted : (b : Bool) → b ≢ true → b ≡ false
refuted true h = absurd (h refl)
refuted false h = refl

-- ---- the entries of a block

-- all end
pub ended_table : (n : ℕ) (e : ℕ → Entry) {f : ℕ → Entry} → ((k : ℕ) → k < n → f k ≡ record { tag = (e k).tag; stands = false })
    → tabulate n f ≡ ended (tabulate n e)
unfolding tabulate
ended_table zero e h = refl
ended_table (suc n) e h = ap₂ ◌∷◌ (h 0 (omega arith)) (ended_table n (λ k. e (suc k)) (λ k a. h (suc k) (omega arith)))

-- those of a tag end
pub ends_table : (n tag : ℕ) (e : ℕ → Entry) {f : ℕ → Entry}
    → ((k : ℕ) → k < n → f k ≡ record { tag = (e k).tag; stands = (e k).stands && not (eqb (e k).tag tag) })
    → tabulate n f ≡ ends_tag tag (tabulate n e)
unfolding tabulate
ends_table zero tag e h = refl
ends_table (suc n) tag e h = ap₂ ◌∷◌ (h 0 (omega arith)) (ends_table n tag (λ k. e (suc k)) (λ k a. h (suc k) (omega arith)))

-- the tag stands among them, or not
pub holds_table : (n k tag : ℕ) (e : ℕ → Entry) → k < n → (e k).stands ≡ true → (e k).tag ≡ tag → holds tag (tabulate n e) ≡ true
unfolding tabulate
holds_table zero k tag e h s t = absurd (omega arith)
holds_table (suc n) zero tag e h s t = simp (s, eq-eqb (e 0).tag tag t)
holds_table (suc n) (suc k) tag e h s t =
    ap (λ (u : Bool). ((e 0).stands && eqb (e 0).tag tag) || u) (holds_table n k tag (λ j. e (suc j)) (omega arith) s t)
    ∙ or-true ((e 0).stands && eqb (e 0).tag tag)

pub lacks_table : (n tag : ℕ) (e : ℕ → Entry) → ((k : ℕ) → k < n → ((e k).stands && eqb (e k).tag tag) ≡ false) → holds tag (tabulate n e) ≡ false
unfolding tabulate
lacks_table zero tag e h = refl
lacks_table (suc n) tag e h = rw (h 0 (omega arith)) (lacks_table n tag (λ k. e (suc k)) (λ k a. h (suc k) (omega arith)))

-- the standing tags, in order, are those at the places at which an entry stands
standing_from : (n lo hi : ℕ) (e : ℕ → Entry) {l : List ℕ} → lo + n ≡ hi → Lists (λ k. (e k).stands ≡ true) lo hi l
    → standing_tags (tabulate n (λ i. e (lo + i))) ≡ map (λ k. (e k).tag) l
unfolding tabulate
standing_from zero lo hi e z (none g) = refl
standing_from zero lo hi e z (more a b o g r) = absurd (omega arith)
standing_from (suc n) lo hi e z (none g) =
    let off : (e lo).stands ≡ false = refuted (e lo).stands (g lo (omega arith) (omega arith)) in
    let rest : Lists (λ k. (e k).stands ≡ true) (lo + 1) hi [] = none {lo = lo + 1} {hi = hi} (λ k a b. g k (omega arith) b) in
    ap standing_tags (tabulate_from n lo e) ∙ rw off (standing_from n (lo + 1) hi e (omega arith) rest)
standing_from (suc n) lo hi e z (more {k = k} {l = l} a b o g r) = is? k lo
    (λ y.
    let on : (e lo).stands ≡ true = rw (← y) o in
    ap standing_tags (tabulate_from n lo e)
    ∙ rw (on, y) (ap (λ (m : List ℕ). (e lo).tag ∷ m) (standing_from n (lo + 1) hi e (omega arith) (rw y at r))))
    (λ y.
    let off : (e lo).stands ≡ false = refuted (e lo).stands (g lo (omega arith) (omega arith)) in
    let c : lo + 1 ≤ k = omega arith in
    let rest : Lists (λ j. (e j).stands ≡ true) (lo + 1) hi (k ∷ l) = more c b o (λ j d. g j (omega arith)) r in
    ap standing_tags (tabulate_from n lo e) ∙ rw off (standing_from n (lo + 1) hi e (omega arith) rest))

pub standing_table : (n : ℕ) (e : ℕ → Entry) {l : List ℕ} → Lists (λ k. (e k).stands ≡ true) 0 n l
    → standing_tags (tabulate n e) ≡ map (λ k. (e k).tag) l
standing_table n e h = ap standing_tags (tabulate_same n (λ i a. ap e (omega arith))) ∙ standing_from n 0 n e (omega arith) h

-- ---- the blocks of a book

-- block i changes
pub on_table : (n i : ℕ) (f : Block → Block) {p q : ℕ → Block} → (i < n → q i ≡ f (p i)) → ((j : ℕ) → j < n → j ≢ i → q j ≡ p j)
    → tabulate n q ≡ on_block i f (tabulate n p)
unfolding tabulate
on_table zero i f h o = refl
on_table (suc n) zero f h o = ap₂ ◌∷◌ (h (omega arith)) (tabulate_same n (λ j a. o (suc j) (omega arith) (omega arith)))
on_table (suc n) (suc i) f h o =
    ap₂ ◌∷◌ (o 0 (omega arith) (omega arith)) (on_table n i f (λ a. h (omega arith)) (λ j a d. o (suc j) (omega arith) (omega arith)))

pub entries_table : (n i : ℕ) (p : ℕ → Block) → i < n → entries_of i (tabulate n p) ≡ (p i).entries
unfolding tabulate
entries_table zero i p h = absurd (omega arith)
entries_table (suc n) zero p h = refl
entries_table (suc n) (suc i) p h = entries_table n i (λ j. p (suc j)) (omega arith)

pub last_table : (n : ℕ) (p : ℕ → Block) → last_of (tabulate n p) ≡ n - 1
last_table n p = ap (λ (m : ℕ). m - 1) (length_tabulate n p)

-- a block opens as the last
pub opens_table : (n s : ℕ) {p q : ℕ → Block} → ((i : ℕ) → i < n → q i ≡ p i) → q n ≡ record { opened = s; closed = OPEN; entries = [] }
    → tabulate (n + 1) q ≡ opens_at s (tabulate n p)
opens_table n s {p} {q} h e = tabulate_more n h ∙ ap (λ (k : Block). tabulate n p ++ (k ∷ [])) e

-- the first block that holds the tag
pub holder_table : (n i tag : ℕ) (p : ℕ → Block) → i < n → holds tag (p i).entries ≡ true → ((j : ℕ) → j < i → holds tag (p j).entries ≡ false)
    → holder_of tag (tabulate n p) ≡ i
unfolding tabulate
holder_table zero i tag p h t f = absurd (omega arith)
holder_table (suc n) zero tag p h t f = rw t
holder_table (suc n) (suc i) tag p h t f =
    rw (f 0 (omega arith)) (ap suc (holder_table n i tag (λ j. p (suc j)) (omega arith) t (λ j a. f (suc j) (omega arith))))

-- ---- what is read off the book

pub opening_table : (n i : ℕ) (p : ℕ → Block) → i < n → get_or (openings (tabulate n p)) i 0 ≡ (p i).opened
unfolding tabulate
opening_table zero i p h = absurd (omega arith)
opening_table (suc n) zero p h = refl
opening_table (suc n) (suc i) p h = opening_table n i (λ j. p (suc j)) (omega arith)

pub closing_table : (n i : ℕ) (p : ℕ → Block) → i < n → get_or (closings (tabulate n p)) i 0 ≡ (p i).closed
unfolding tabulate
closing_table zero i p h = absurd (omega arith)
closing_table (suc n) zero p h = refl
closing_table (suc n) (suc i) p h = closing_table n i (λ j. p (suc j)) (omega arith)

-- the records, where all blocks but the last have b
full_records : (n b : ℕ) (p : ℕ → Block) → ((i : ℕ) → i < n → length (p i).entries ≡ b) → records_in (tabulate n p) ≡ n * b
unfolding tabulate
full_records zero b p h = simp zero-mul
full_records (suc n) b p h = simp suc-mul (omega (arith, h 0 (omega arith), full_records n b (λ i. p (suc i)) (λ i a. h (suc i) (omega arith))))

pub records_table : (n b : ℕ) (p : ℕ → Block) → 0 < n → ((i : ℕ) → i < n - 1 → length (p i).entries ≡ b)
    → records_in (tabulate n p) ≡ (n - 1) * b + length (p (n - 1)).entries
records_table zero b p h full = absurd (omega arith)
records_table (suc n) b p h full =
    let e : suc n - 1 ≡ n = omega arith in
    rw e (ap records_in (tabulate_suc n p) ∙ records_append (tabulate n p) (p n ∷ [])
    ∙ omega (arith, full_records n b p (λ i a. full i (omega arith))))

open_append : (t : ℕ) (l : List Block) (k : Block) → open_at t (l ++ (k ∷ [])) ≡ open_at t l + is (leb k.opened t && ltb t k.closed)
open_append t [] k = one (leb k.opened t && ltb t k.closed)
  where
    one : (a : Bool) → cond a 1 0 ≡ 0 + is a
    one true = refl
    one false = refl
open_append t (x ∷ l) k =
    cond_rel (λ (m n : ℕ). m ≡ n + is (leb k.opened t && ltb t k.closed)) {b = leb x.opened t && ltb t x.closed} refl
    (λ e. omega (arith, open_append t l k)) (λ e. open_append t l k)

-- the blocks open at t, counted from 1 by their seconds
pub open_table : (n t : ℕ) (p : ℕ → Block) (opened closed : ℕ → ℕ) → ((i : ℕ) → i < n → (p i).opened ≡ opened (i + 1))
    → ((i : ℕ) → i < n → (p i).closed ≡ closed (i + 1)) → open_at t (tabulate n p) ≡ sum_to n (λ m. is (leb (opened m) t && ltb t (closed m)))
unfolding tabulate sum_to
open_table zero t p opened closed o c = refl
open_table (suc n) t p opened closed o c =
    let e : (p n).opened ≡ opened (suc n) = o n (omega arith) ∙ ap opened (add-one n) in
    let f : (p n).closed ≡ closed (suc n) = c n (omega arith) ∙ ap closed (add-one n) in
    ap (open_at t) (tabulate_suc n p) ∙ open_append t (tabulate n p) (p n)
    ∙ ap₂ ◌+◌ (open_table n t p opened closed (λ i a. o i (omega arith)) (λ i a. c i (omega arith)))
    (ap₂ (λ (x y : ℕ). is (leb x t && ltb t y)) e f)
