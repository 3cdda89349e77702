-- A block that may close: its up below it, its standing slots in the block, their tags the directory's (Sound). It is what the test `bad_block` says of the
-- words as found; and how standing bits, one raised or one lowered, lie in a memory.
use Rattle.std.specs.Prelude.{◌≡◌, refl, ◌≢◌, true, ◌&&◌, ◌||◌, List, ◌∷◌, eqb, ltb}
use Rattle.std.proofs.Common.{sym, ◌∙◌, arith}
use Rattle.std.proofs.Math.Bool.{Bool, false, not}
use Prim.Native.Nat.{ℕ, ◌-◌, ◌/◌, ◌%◌, ◌≤◌, ◌<◌}
use Rattle.std.proofs.Math.Dec.{leb}
use borrow.Author.Tests.{ne_eqb, lt-ltb, le-ltb, leb-true, leb-false, ltb-true, not-false}
use Rattle.base.specs.Branch.{is?, lt?, and-true, or-false, eqb_same}
use Rattle.base.specs.Bits.{with_bit, without_bit}
use Rattle.base.specs.Ones.{Lists, none, more}
use Rattle.base.specs.Sums.{All, nil, cons, all_map}
use Rattle.layout.specs.declared.settings.Settings.{Settings}
use Rattle.layout.specs.declared.head.Head.{Head}
use Rattle.layout.specs.declared.standing.Standing.{Standing}
use Rattle.layout.specs.declared.address.Address.TheVariants.{Field, Bits, Slot}
use Rattle.layout.specs.Fields.{up_word, right_word, tag_word}
use Rattle.layout.specs.Memory.{Memory, put}
use Rattle.layout.specs.Standing.{slots, stands, raised, lowered, block_bits}
use Rattle.layout.specs.StandingLaws.{slots_list, changed, raise_is, lower_is, lowered_stands, lowered_other}
use Rattle.calls.specs.Refusals.{any_of, bad_block}

-- ---- one bit of a block changed, as the programs write it
abbrev pub one_bit : (ℕ → ℕ → ℕ) → Memory → ℕ → ℕ → Memory
one_bit change f n k = put f (Bits n (k / 32)) (change (k % 32) (f (Bits n (k / 32))))

bit_changed : (change : ℕ → ℕ → ℕ) (f : Memory) (n k : ℕ) → k < 64 → block_bits (one_bit change f n k) n ≡ changed change (block_bits f n) k
unfolding changed
bit_changed change f n k h = lt? k 32
    (λ l.
    let e : k / 32 ≡ 0 = omega arith in
    let e' : k % 32 ≡ k = omega arith in
    simp (e, e', eqb_same, lt-ltb k 32 l))
    (λ l.
    let e : k / 32 ≡ 1 = omega arith in
    let e' : k % 32 ≡ k - 32 = omega arith in
    simp (e, e', eqb_same, le-ltb k 32 l))

pub bit_raised : (f : Memory) (n k : ℕ) → k < 64 → block_bits (one_bit with_bit f n k) n ≡ raised (block_bits f n) k
bit_raised f n k h = bit_changed with_bit f n k h ∙ sym (raise_is (block_bits f n) k)

pub bit_lowered : (f : Memory) (n k : ℕ) → k < 64 → block_bits (one_bit without_bit f n k) n ≡ lowered (block_bits f n) k
bit_lowered f n k h = bit_changed without_bit f n k h ∙ sym (lower_is (block_bits f n) k)

pub and_none : (a : Bool) → (a && false) ≡ false
and_none true = refl
and_none false = refl

pub bit_elsewhere : (change : ℕ → ℕ → ℕ) (f : Memory) (n k m : ℕ) → m ≢ n → block_bits (one_bit change f n k) m ≡ block_bits f m
bit_elsewhere change f n k m d = simp (ne_eqb n m (λ e. d (sym e)), and_none)

-- ---- the standing slots, one by one
lists_all : {p : ℕ → Type 0} {lo hi : ℕ} {l : List ℕ} → Lists p lo hi l → All (λ k. (k < hi) × p k) l
lists_all (none h) = nil
lists_all (more a b o h r) = cons (b, o) (lists_all r)

lists_none : {p : ℕ → Type 0} {lo hi : ℕ} {l : List ℕ} (t : ℕ → Bool) → Lists p lo hi l → any_of t l ≡ false
    → (k : ℕ) → lo ≤ k → k < hi → p k → t k ≡ false
lists_none t (none h) e k a b o = absurd (h k a b o)
lists_none {l = _ ∷ l} t (more {k = j} c d q h r) e k a b o =
    let z = or-false (t j) (any_of t l) e in
    lt? k j
    (λ u. absurd (h k a u o))
    (λ u. is? k j (λ v. rw v z.0) (λ v. lists_none t r z.1 k (omega arith) b o))

pub all_first : {P : ℕ → Type 0} {k : ℕ} {l : List ℕ} → All P (k ∷ l) → P k
all_first (cons p a) = p

pub all_others : {P : ℕ → Type 0} {k : ℕ} {l : List ℕ} → All P (k ∷ l) → All P l
all_others (cons p a) = a

-- slot k of block x may be moved
pub record Movable (s : Settings) (f : Memory) (x k : ℕ) : Type 0 where
  pub slot : k < s.block
  pub tag : f (Slot x k tag_word) < s.tags

pub record Sound (s : Settings) (f : Memory) (n : ℕ) : Type 0 where
  pub up : f (Field n up_word) < n
  pub moves : (k : ℕ) → k < 64 → stands (block_bits f n) k ≡ true → Movable s f n k

pub sound_slots : {s : Settings} {f : Memory} {n : ℕ} → Sound s f n → All (Movable s f n) (slots (block_bits f n))
sound_slots {f = f} {n} i = all_map (λ k p. i.moves k p.0 p.1) (lists_all (slots_list (block_bits f n)))

-- the same block in another memory
pub sound_in : {s : Settings} {f g : Memory} {n : ℕ} → g (Field n up_word) < n → ((k : ℕ) → g (Slot n k tag_word) ≡ f (Slot n k tag_word))
    → ((k : ℕ) → stands (block_bits g n) k ≡ true → stands (block_bits f n) k ≡ true) → Sound s f n → Sound s g n
sound_in u t b i = record {
  up = u;
  moves = λ k h e. let m = i.moves k h (b k e) in record { slot = m.slot; tag = rw (t k) m.tag };
}

-- what stands with one slot lowered stood before
pub lowered_stood : (b : Standing) (k j : ℕ) → stands (lowered b k) j ≡ true → stands b j ≡ true
lowered_stood b k j e = is? j k
    (λ z. let y : stands (lowered b k) j ≡ false = rw z (lowered_stands b k) in let w : ◌≡◌ {A = ℕ} 0 1 = cc in absurd (omega arith))
    (λ d. sym (lowered_other b k j d) ∙ e)

-- ---- the test of the words as found
-- right of a block other than the acceptor: above it and up to N
pub record Between (n right opened : ℕ) : Type 0 where
  pub above : n < right
  pub most : right ≤ opened

module _ (h : Head) (f : Memory) (n : ℕ) (e : bad_block h f n ≡ false) where
  pub found_sound : Sound h.settings f n
  unfolding bad_block
  found_sound =
      let t : ℕ → Bool = λ k. leb h.settings.block k || leb h.settings.tags (f (Slot n k tag_word)) in
      let a = or-false _ (any_of t (slots (block_bits f n))) e in
      let u = or-false (leb n (f (Field n up_word))) _ a.0 in
      record {
        up = leb-false _ _ u.0;
        moves = λ k c o.
            let z = or-false (leb h.settings.block k) _ (lists_none t (slots_list (block_bits f n)) a.1 k (omega arith) c o) in
            record { slot = leb-false _ _ z.0; tag = leb-false _ _ z.1 };
      }

  pub found_right : n ≢ h.cursor.opened → Between n (f (Field n right_word)) h.cursor.opened
  unfolding bad_block
  found_right d =
      let right = f (Field n right_word) in
      let t : ℕ → Bool = λ k. leb h.settings.block k || leb h.settings.tags (f (Slot n k tag_word)) in
      let a = or-false _ (any_of t (slots (block_bits f n))) e in
      let u = or-false (leb n (f (Field n up_word))) (not (eqb n h.cursor.opened) && not (ltb n right && leb right h.cursor.opened)) a.0 in
      let w : not (ltb n right && leb right h.cursor.opened) ≡ false = rw (ne_eqb n h.cursor.opened d) at u.1 in
      let z = and-true (ltb n right) _ (not-false _ w) in
      record { above = ltb-true _ _ z.0; most = leb-true _ _ z.1 }
