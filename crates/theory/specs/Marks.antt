-- The standing bits: the bit of a slot is 1 exactly while its record is unended (Marked). Setting one with a record that begins, clearing
-- one with a record that ends, and a block set to zero keep it; and the standing slots in order are those of the unended records (Pending).
use Rattle.std.specs.Prelude.{◌≡◌, refl, ◌≢◌, false, cond, ◌&&◌, List, [], ◌∷◌, ℕ, ◌+◌, ◌/◌, ◌%◌, ◌≤◌, ◌<◌, eqb}
use Rattle.std.proofs.Common.{sym, ap, ◌∙◌, arith, eqb-true}
use Rattle.base.specs.Branch.{is?, lt?, by_test, and-true, eqb_same}
use Rattle.base.specs.Bits.{bit_at, bit_none, with_bit, without_bit, with_here, with_other, without_here, without_other}
use Rattle.base.specs.Ones.{Lists, none, more}
use Rattle.base.specs.Slots.{bit_of, slots_of, slots-of}
use Rattle.layout.specs.Sizes.{OPEN}
use Rattle.theory.specs.Records.{Record, Records, Apart, place?, PutAt, Emptied}

-- the bits words by block and number
abbrev pub Marks : Type 0
Marks = ℕ → ℕ → ℕ

pub record Marked (b : Marks) (f : Records) : Type 0 where
  pub unended : (n k : ℕ) → bit_of (b n) k ≡ 1 → (f n k).to ≡ OPEN
  pub marks : (n k : ℕ) → (f n k).to ≡ OPEN → bit_of (b n) k ≡ 1

-- ---- one bit
pub record PutBit (b c : Marks) (n k y : ℕ) : Type 0 where
  pub here : bit_of (c n) k ≡ y
  pub other : (m j : ℕ) → Apart n k m j → bit_of (c m) j ≡ bit_of (b m) j

-- a bit changes with its record
pub marked_at : {b c : Marks} {f g : Records} {n k y : ℕ} {r : Record} → Marked b f → PutBit b c n k y → PutAt f g n k r → (y ≡ 1 → r.to ≡ OPEN)
    → (r.to ≡ OPEN → y ≡ 1) → Marked c g
marked_at {n = n} {k} i b e p q = record {
  unended = λ m j w. place? n k m j
      (λ u v. rw (u, v, e.here) (p (sym b.here ∙ rw (u, v) at w)))
      (λ d. rw (e.other m j d) (i.unended m j (sym (b.other m j d) ∙ w)));
  marks = λ m j w. place? n k m j
      (λ u v. rw (u, v) (b.here ∙ q (rw (u, v, e.here) at w)))
      (λ d. b.other m j d ∙ i.marks m j (rw (e.other m j d) at w));
}

-- the test of two slots that are not the same
pub apart_false : (n k m j : ℕ) → Apart n k m j → (eqb k j && eqb n m) ≡ false
apart_false n k m j d = by_test (eqb k j && eqb n m) (λ t. t ≡ false)
    (λ e. let h = and-true (eqb k j) (eqb n m) e in absurd (d (sym (eqb-true n m h.1), sym (eqb-true k j h.0))))
    (λ e. refl)

-- one word of the bits changed, by one bit
word_put : (b : Marks) (n k x y : ℕ) → bit_at (k % 32) x ≡ y → ((i : ℕ) → i ≢ k % 32 → bit_at i x ≡ bit_at i (b n (k / 32)))
    → PutBit b (λ m w. cond (eqb (k / 32) w && eqb n m) x (b m w)) n k y
word_put b n k x y h o = record {
  here = simp eqb_same h;
  other = λ m j d. place? n (k / 32) m (j / 32)
      (λ u v. simp (u, v, eqb_same) (o (j % 32) (λ z. d (u, omega arith))))
      (λ c. simp (apart_false n (k / 32) m (j / 32) c));
}

pub bit_on : (b : Marks) (n k : ℕ) → PutBit b (λ m w. cond (eqb (k / 32) w && eqb n m) (with_bit (k % 32) (b n (k / 32))) (b m w)) n k 1
bit_on b n k = let x = b n (k / 32) in word_put b n k (with_bit (k % 32) x) 1 (with_here (k % 32) x) (λ i d. with_other (k % 32) i x d)

pub bit_out : (b : Marks) (n k : ℕ) → PutBit b (λ m w. cond (eqb (k / 32) w && eqb n m) (without_bit (k % 32) (b n (k / 32))) (b m w)) n k 0
bit_out b n k = let x = b n (k / 32) in word_put b n k (without_bit (k % 32) x) 0 (without_here (k % 32) x) (λ i d. without_other (k % 32) i x d)

-- ---- a block is set to zero
pub marked_open : {b c : Marks} {f g : Records} {n : ℕ} → Marked b f → Emptied f g n → ((w : ℕ) → c n w ≡ 0) → ((m w : ℕ) → m ≢ n → c m w ≡ b m w)
    → Marked c g
marked_open {c = c} {g = g} {n} i m z same = record {
  unended = λ x k w. is? x n
      (λ e. let y : bit_of (c x) k ≡ 0 = rw e (ap (bit_at (k % 32)) (z (k / 32)) ∙ bit_none (k % 32)) in absurd (omega arith))
      (λ d. rw (m.other x k d) (i.unended x k (sym (ap (bit_at (k % 32)) (same x (k / 32) d)) ∙ w)));
  marks = λ x k w. is? x n
      (λ e. let y : (g x k).to ≡ 0 = rw e (m.here k) in absurd (omega arith))
      (λ d. ap (bit_at (k % 32)) (same x (k / 32) d) ∙ i.marks x k (rw (m.other x k d) at w));
}

-- ---- the slots of block x, from lo on, whose records are unended, in order
pub data Pending (f : Records) (x : ℕ) : ℕ → List ℕ → Type 0 where
  no_more : {lo : ℕ} → ((k : ℕ) → lo ≤ k → (f x k).to ≢ OPEN) → Pending f x lo []
  one_more : {lo k : ℕ} {l : List ℕ} → lo ≤ k → (f x k).to ≡ OPEN → ((j : ℕ) → lo ≤ j → j < k → (f x j).to ≢ OPEN) → Pending f x (k + 1) l
      → Pending f x lo (k ∷ l)

pub pending_frame : {f g : Records} {x lo : ℕ} {l : List ℕ} → ((k : ℕ) → lo ≤ k → g x k ≡ f x k) → Pending f x lo l → Pending g x lo l
pending_frame e (no_more h) = no_more (λ k a. rw (e k a) (h k a))
pending_frame e (one_more {k = k} a o h p) =
    one_more a (rw (e k a) o) (λ j c d. rw (e j c) (h j c d)) (pending_frame (λ j c. e j (omega arith)) p)

-- the bits name them
pending_lists : {b : Marks} {f : Records} {x lo : ℕ} {l : List ℕ} → Marked b f → ((k : ℕ) → 64 ≤ k → (f x k).to ≢ OPEN)
    → Lists (λ k. bit_of (b x) k ≡ 1) lo 64 l → Pending f x lo l
pending_lists {x = x} i o (none g) = no_more (λ k a w. lt? k 64 (λ c. g k a c (i.marks x k w)) (λ c. o k c w))
pending_lists {x = x} i o (more {k = k} a c w g r) = one_more a (i.unended x k w) (λ j d e v. g j d e (i.marks x j v)) (pending_lists i o r)

pub pending_slots : {b : Marks} {f : Records} (x : ℕ) → Marked b f → ((k : ℕ) → 64 ≤ k → (f x k).to ≢ OPEN) → Pending f x 0 (slots_of (b x 0) (b x 1))
pending_slots {b} x i o = pending_lists i o (slots-of (b x))
