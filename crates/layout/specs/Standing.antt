-- STANDING BITS: the two words of a block, low and high, as one value; slot k stands while its bit is 1.
use Rattle.std.specs.Prelude.{Bool, cond, List, ℕ, ◌+◌, ◌-◌, eqb, ltb}
use Rattle.std.specs.Int.Count.{count_trailing_zeros}
use Rattle.base.specs.Bits.{bit_at, with_bit, without_bit}
use Rattle.base.specs.Ones.{lower_off}
use Rattle.base.specs.Slots.{slots_of}
use Rattle.layout.specs.declared.standing.Standing.{Standing}
use Rattle.layout.specs.declared.address.Address.TheVariants.{Bits}
use Rattle.layout.specs.Memory.{Memory}

-- the two words of block n
abbrev pub block_bits : Memory → ℕ → Standing
block_bits f n = record { low = f (Bits n 0); high = f (Bits n 1) }

-- the standing slots in order; how many stand is the number of ones
abbrev pub slots : Standing → List ℕ
slots b = slots_of b.low b.high

-- slot k stands
unfoldable pub stands : Standing → ℕ → Bool
stands b k = cond (ltb k 32) (eqb (bit_at k b.low) 1) (eqb (bit_at (k - 32) b.high) 1)

-- slot k made to stand, and made to stand no more, whatever its bit was
unfoldable pub raised : Standing → ℕ → Standing
raised b k = cond (ltb k 32) (record { low = with_bit k b.low; high = b.high }) (record { low = b.low; high = with_bit (k - 32) b.high })

unfoldable pub lowered : Standing → ℕ → Standing
lowered b k = cond (ltb k 32) (record { low = without_bit k b.low; high = b.high }) (record { low = b.low; high = without_bit (k - 32) b.high })

-- the first standing slot, and the others
unfoldable pub first_slot : Standing → ℕ
first_slot b = cond (eqb b.low 0) (32 + count_trailing_zeros 32 b.high) (count_trailing_zeros 32 b.low)

unfoldable pub other_slots : Standing → Standing
other_slots b = cond (eqb b.low 0) (record { low = 0; high = lower_off b.high }) (record { low = lower_off b.low; high = b.high })
