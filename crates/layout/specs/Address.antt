-- ADDRESSES (document 01, "The lent store"): each word of a store by what it is, and its place among the words.
use Rattle.std.specs.Prelude.{Bool, false, ◌&&◌, ℕ, ◌+◌, ◌*◌, ◌≤◌, ◌<◌, eqb}
use Rattle.layout.specs.declared.settings.Settings.{Settings}
use Rattle.layout.specs.declared.address.Address.{Address}
use Rattle.layout.specs.declared.address.Address.TheVariants.{Head, Time, Dir, Field, Bits, Slot}
use Rattle.layout.specs.Sizes.{head_len, level_len, level_start, dir_start, block_head, record_len, block_start, bits_start}

-- where a word lies
abbrev pub offset : Settings → Address → ℕ
offset s (Head j) = j
offset s (Time l i) = level_start l + i
offset s (Dir t) = dir_start + t
offset s (Field n j) = block_start s n + j
offset s (Bits n w) = block_start s n + (bits_start + w)
offset s (Slot n k i) = block_start s n + (block_head + (record_len * k + i))

-- block n is one of the store's
pub record Numbered (s : Settings) (n : ℕ) : Type 0 where
  pub low : 1 ≤ n
  pub high : n ≤ s.blocks

-- the addresses that a store has
abbrev pub Valid : Settings → Address → Type 0
Valid s (Head j) = j < head_len
Valid s (Time l i) = (l < 3) × (i < level_len l)
Valid s (Dir t) = t < s.tags
Valid s (Field n j) = Numbered s n × (j < bits_start)
Valid s (Bits n w) = Numbered s n × (w < 2)
Valid s (Slot n k i) = Numbered s n × (k < s.block) × (i < record_len)

-- the words of block n
abbrev pub of_block : ℕ → Address → Bool
of_block n (Head j) = false
of_block n (Time l i) = false
of_block n (Dir t) = false
of_block n (Field m j) = eqb n m
of_block n (Bits m w) = eqb n m
of_block n (Slot m k i) = eqb n m

-- an address as four numbers: two addresses of different kinds, or with different literal words, compute to unequal whatever their blocks are
pub record Code : Type 0 where
  pub kind : ℕ
  pub word : ℕ
  pub slot : ℕ
  pub number : ℕ

abbrev pub code : Address → Code
code (Head j) = record { kind = 0; word = 0; slot = 0; number = j }
code (Time l i) = record { kind = 1; word = l; slot = 0; number = i }
code (Dir t) = record { kind = 2; word = 0; slot = 0; number = t }
code (Field n j) = record { kind = 3; word = j; slot = 0; number = n }
code (Bits n w) = record { kind = 4; word = w; slot = 0; number = n }
code (Slot n k i) = record { kind = 5; word = i; slot = k; number = n }

-- the test of two addresses
abbrev pub eq_a : Address → Address → Bool
eq_a a x =
    eqb (code a).kind (code x).kind && (eqb (code a).word (code x).word && (eqb (code a).slot (code x).slot && eqb (code a).number (code x).number))
