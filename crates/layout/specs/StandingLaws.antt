-- Standing bits: the slots in order, the first taken off, one raised, one lowered.
use Rattle.std.specs.Prelude.{◌≡◌, ◌≢◌, Bool, false, cond, ◌&&◌, [], ◌∷◌, ℕ, ◌+◌, ◌-◌, ◌%◌, ◌^◌, ◌≤◌, ◌<◌, ltb}
use Rattle.std.proofs.Math.Path.{refl}
use Rattle.std.proofs.Common.{sym, ◌∙◌, arith, eqb-true, eq-eqb, ne_eqb, lt-ltb, le-ltb}
use Rattle.std.proofs.Math.Bool.{true}
use Rattle.std.proofs.Math.Dec.{eqb}
use Rattle.std.proofs.Math.ListN.{length, length-append}
use Rattle.std.proofs.Math.Nat.{mod-eq_of_lt, mod-eq-sub-mod}
use Rattle.std.proofs.lemmas.Nat.{and_le_l}
use Rattle.std.proofs.lemmas.Bool.{eqb-false}
use Rattle.base.specs.Branch.{lt?, is?, and-true}
use Rattle.base.specs.Bits.{bit_at, with_bit, without_bit, bit_two, with_other, without_here, without_other}
use Rattle.base.specs.Ones.{bits_from, bits_off, Lists, lists_append, bits_list}
use Rattle.base.specs.Slots.{slots_of, slots_none, slots_next_low, slots_next_high}
use Rattle.layout.specs.declared.standing.Standing.{Standing}
use Rattle.layout.specs.Standing.{slots, stands, raised, lowered, first_slot, other_slots}

-- no slot stands
abbrev pub none : Standing → Bool
none b = eqb b.low 0 && eqb b.high 0

-- both are words of 32 bits
pub record TwoWords (b : Standing) : Type 0 where
  pub low : b.low < 2 ^ 32
  pub high : b.high < 2 ^ 32

-- ---- a bit by its test
pub bit_one : (k x : ℕ) → eqb (bit_at k x) 1 ≡ true → bit_at k x ≡ 1
bit_one k x e = eqb-true (bit_at k x) 1 e

pub bit_zero : (k x : ℕ) → eqb (bit_at k x) 1 ≡ false → bit_at k x ≡ 0
bit_zero k x e = let d = eqb-false (bit_at k x) 1 e in omega (arith, bit_two k x)

without_one : (k x : ℕ) → eqb (bit_at k x) 1 ≡ true → without_bit k x ≡ x - 2 ^ k
unfolding without_bit
without_one k x e = rw e

-- ---- the slots in order: the first, then the others
pub slots_empty : (b : Standing) → none b ≡ true → slots b ≡ []
slots_empty b e =
    let p = and-true (eqb b.low 0) _ e in
    let l : b.low ≡ 0 = eqb-true _ _ p.0 in
    let h : b.high ≡ 0 = eqb-true _ _ p.1 in
    rw (l, h) slots_none

pub slots_next : (b : Standing) → TwoWords b → none b ≡ false → slots b ≡ first_slot b ∷ slots (other_slots b)
unfolding first_slot other_slots
slots_next b w e = is? b.low 0
    (λ z.
    let d : b.high ≡ 0 → ⊥ = eqb-false _ _ (rw (eq-eqb _ _ z) at e) in
    rw (eq-eqb _ _ z, z) (slots_next_high b.high (omega arith) w.high))
    (λ d. rw (ne_eqb _ _ d) (slots_next_low b.low b.high (omega arith) w.low))

pub other_fewer : (b : Standing) → TwoWords b → none b ≡ false → length (slots (other_slots b)) + 1 ≡ length (slots b)
other_fewer b w e = rw (slots_next b w e) (omega arith)

pub other_words : (b : Standing) → TwoWords b → TwoWords (other_slots b)
unfolding other_slots
other_words b w = is? b.low 0
    (λ z. rw (eq-eqb _ _ z) record { low = omega arith; high = omega (arith, and_le_l b.high (b.high - 1)) })
    (λ d. rw (ne_eqb _ _ d) record { low = omega (arith, and_le_l b.low (b.low - 1)); high = w.high })

-- ---- slot k is bit k of the low word, or bit k - 32 of the high one
low_slot : (b : Standing) (k : ℕ) → k < 32 → stands b k ≡ eqb (bit_at k b.low) 1
unfolding stands
low_slot b k h = simp (lt-ltb k 32 h)

high_slot : (b : Standing) (k : ℕ) → 32 ≤ k → stands b k ≡ eqb (bit_at (k - 32) b.high) 1
unfolding stands
high_slot b k h = simp (le-ltb k 32 h)

-- ---- the word that has slot k's bit, and that word replaced
abbrev pub word_of : Standing → ℕ → ℕ
word_of b k = cond (ltb k 32) b.low b.high

abbrev pub with_word : Standing → ℕ → ℕ → Standing
with_word b k x = cond (ltb k 32) (record { low = x; high = b.high }) (record { low = b.low; high = x })

high_bit : (k : ℕ) → 32 ≤ k → k < 64 → k % 32 ≡ k - 32
high_bit k h l = mod-eq-sub-mod h ∙ mod-eq_of_lt (omega arith)

pub bit_stands : (b : Standing) (k : ℕ) → k < 64 → stands b k ≡ eqb (bit_at (k % 32) (word_of b k)) 1
bit_stands b k l = lt? k 32
    (λ h. low_slot b k h ∙ rw (lt-ltb k 32 h, mod-eq_of_lt h))
    (λ h. high_slot b k h ∙ rw (le-ltb k 32 h, high_bit k h l))

-- The slots are, in order, the numbers below 64 that stand.
pub slots_list : (b : Standing) → Lists (λ k. stands b k ≡ true) 0 64 (slots b)
unfolding slots_of
slots_list b = lists_append {lo = 0} {mid = 32} {hi = 64} (omega arith) (omega arith)
    (bits_list 32 0 b.low (λ j h e. low j h ∙ eq-eqb _ _ e) (λ j h e. bit_one j b.low (sym (low j h) ∙ e)))
    (bits_list 32 32 b.high (λ j h e. high j ∙ eq-eqb _ _ e) (λ j h e. bit_one j b.high (sym (high j) ∙ e)))
  where
    low : (j : ℕ) → j < 32 → stands b (0 + j) ≡ eqb (bit_at j b.low) 1
    low j h = let z : 0 + j ≡ j = omega arith in rw z (low_slot b j h)

    high : (j : ℕ) → stands b (32 + j) ≡ eqb (bit_at j b.high) 1
    high j = let z : 32 + j - 32 ≡ j = omega arith in high_slot b (32 + j) (omega arith) ∙ rw z

-- ---- one bit of one word changed by f: raised and lowered are two cases
unfoldable pub changed : (ℕ → ℕ → ℕ) → Standing → ℕ → Standing
changed f b k = cond (ltb k 32) (record { low = f k b.low; high = b.high }) (record { low = b.low; high = f (k - 32) b.high })

module _ (f : ℕ → ℕ → ℕ) (b : Standing) (k : ℕ) where
  change_low : k < 32 → changed f b k ≡ record { low = f k b.low; high = b.high }
  unfolding changed
  change_low h = simp (lt-ltb k 32 h)

  change_high : 32 ≤ k → changed f b k ≡ record { low = b.low; high = f (k - 32) b.high }
  unfolding changed
  change_high h = simp (le-ltb k 32 h)

  -- the other slots are as they were
  change_other : ((i j x : ℕ) → j ≢ i → bit_at j (f i x) ≡ bit_at j x) → (j : ℕ) → j ≢ k → stands (changed f b k) j ≡ stands b j
  change_other g j d = lt? k 32
      (λ h. lt? j 32
      (λ l. low_slot (changed f b k) j l ∙ rw (change_low h, g k j b.low d) (sym (low_slot b j l)))
      (λ l. high_slot (changed f b k) j l ∙ rw (change_low h) (sym (high_slot b j l))))
      (λ h. lt? j 32
      (λ l. low_slot (changed f b k) j l ∙ rw (change_high h) (sym (low_slot b j l)))
      (λ l. high_slot (changed f b k) j l ∙ rw (change_high h, g (k - 32) (j - 32) b.high (λ e. d (omega arith))) (sym (high_slot b j l))))

  pub change_word : k < 64 → changed f b k ≡ with_word b k (f (k % 32) (word_of b k))
  change_word l = lt? k 32
      (λ h. change_low h ∙ rw (lt-ltb k 32 h, mod-eq_of_lt h))
      (λ h. change_high h ∙ rw (le-ltb k 32 h, high_bit k h l))

module _ (b : Standing) (k : ℕ) where
  -- ---- a slot raised, and the others as they were
  pub raise_is : raised b k ≡ changed with_bit b k
  unfolding raised changed
  raise_is = refl

  pub raised_other : (j : ℕ) → j ≢ k → stands (raised b k) j ≡ stands b j
  raised_other j d = rw raise_is (change_other with_bit b k with_other j d)

  -- ---- a slot lowered stands no more, and the others are as they were
  pub lower_is : lowered b k ≡ changed without_bit b k
  unfolding lowered changed
  lower_is = refl

  pub lowered_stands : stands (lowered b k) k ≡ false
  lowered_stands = rw lower_is (lt? k 32
      (λ h. low_slot (changed without_bit b k) k h ∙ rw (change_low without_bit b k h, without_here))
      (λ h. high_slot (changed without_bit b k) k h ∙ rw (change_high without_bit b k h, without_here)))

  pub lowered_other : (j : ℕ) → j ≢ k → stands (lowered b k) j ≡ stands b j
  lowered_other j d = rw lower_is (change_other without_bit b k without_other j d)

  -- one fewer stands where it did
  pub lowered_fewer : k < 64 → stands b k ≡ true → length (slots (lowered b k)) + 1 ≡ length (slots b)
  unfolding slots_of
  lowered_fewer h e = rw lower_is (lt? k 32
      (λ l. rw (change_low without_bit b k l) (simp length-append (omega (arith, one 0 k b.low l (sym (low_slot b k l) ∙ e)))))
      (λ l. rw (change_high without_bit b k l) (simp length-append (omega (arith, one 32 (k - 32) b.high (omega arith) (sym (high_slot b k l) ∙ e))))))
    where
      one : (i j x : ℕ) → j < 32 → eqb (bit_at j x) 1 ≡ true → length (bits_from 32 i (without_bit j x)) + 1 ≡ length (bits_from 32 i x)
      one i j x l z = rw (without_one j x z) (omega (arith, bits_off 32 i j x l (bit_one j x z)))
