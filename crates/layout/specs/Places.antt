-- PLACES (document 01, "The lent store"): slot k (from 0) of block n has place (n − 1) × b + k + 1. The directory keeps them.
use Rattle.std.specs.Prelude.{ℕ, ◌+◌, ◌*◌, ◌-◌, ◌/◌, ◌%◌}
use Rattle.layout.specs.declared.settings.Settings.{Settings}

abbrev pub place_of : Settings → ℕ → ℕ → ℕ
place_of s n k = (n - 1) * s.block + k + 1

abbrev pub block_of : Settings → ℕ → ℕ
block_of s p = (p - 1) / s.block + 1

abbrev pub slot_of : Settings → ℕ → ℕ
slot_of s p = (p - 1) % s.block
