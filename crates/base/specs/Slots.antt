-- The two words of a block's standing bits, low and high, as one list of the slots 0 to 63 whose bit is 1.
use Rattle.std.specs.Prelude.{◌≡◌, List, [], ◌∷◌, ◌++◌, ℕ, ◌+◌, ◌*◌, ◌/◌, ◌%◌, ◌^◌, ◌<◌, length}
use Rattle.std.proofs.Common.{sym, ◌∙◌, arith, zero-add, length-append}
use Rattle.std.specs.Int.Count.{count_trailing_zeros, ones}
use Rattle.base.specs.Bits.{bit_at}
use Rattle.base.specs.Ones.{bits_from, lower_off, bits_zero, bits_next, bits_length, Lists, lists_append, bits_list}

-- Bit k of the words w 0, w 1, ..
abbrev pub bit_of : (ℕ → ℕ) → ℕ → ℕ
bit_of w k = bit_at (k % 32) (w (k / 32))

unfoldable pub slots_of : ℕ → ℕ → List ℕ
slots_of low high = bits_from 32 0 low ++ bits_from 32 32 high

-- Bit j of word c.
pub bit-of : (w : ℕ → ℕ) (c j : ℕ) → j < 32 → bit_of w (32 * c + j) ≡ bit_at j (w c)
bit-of w c j h =
    let e : (32 * c + j) % 32 ≡ j = omega arith in
    let f : (32 * c + j) / 32 ≡ c = omega arith in
    rw (e, f)

-- The slots are, in order, the numbers below 64 whose bit is 1.
pub slots-of : (w : ℕ → ℕ) → Lists (λ k. bit_of w k ≡ 1) 0 64 (slots_of (w 0) (w 1))
unfolding slots_of
slots-of w = lists_append {lo = 0} {mid = 32} {hi = 64} (omega arith) (omega arith) (word 0) (word 1)
  where
    word : (c : ℕ) → Lists (λ k. bit_of w k ≡ 1) (32 * c) (32 * c + 32) (bits_from 32 (32 * c) (w c))
    word c = bits_list 32 (32 * c) (w c) (λ j h e. bit-of w c j h ∙ e) (λ j h e. sym (bit-of w c j h) ∙ e)

pub slots_count : (low high : ℕ) → low < 2 ^ 32 → high < 2 ^ 32 → length (slots_of low high) ≡ ones low + ones high
unfolding slots_of
slots_count low high a b = rw (length-append, bits_length 32 0 low a, bits_length 32 32 high b)

pub slots_none : slots_of 0 0 ≡ []
unfolding slots_of
slots_none = rw (bits_zero 32 0, bits_zero 32 32)

-- The next slot: the lowest one of the low word, or where that is 0 of the high word.
pub slots_next_low : (low high : ℕ) → 0 < low → low < 2 ^ 32
    → slots_of low high ≡ count_trailing_zeros 32 low ∷ slots_of (lower_off low) high
unfolding slots_of
slots_next_low low high p h = rw (bits_next 32 0 low p h, zero-add)

pub slots_next_high : (high : ℕ) → 0 < high → high < 2 ^ 32
    → slots_of 0 high ≡ (32 + count_trailing_zeros 32 high) ∷ slots_of 0 (lower_off high)
unfolding slots_of
slots_next_high high p h = rw (bits_zero 32 0, bits_next 32 32 high p h)
