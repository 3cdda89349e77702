-- ADDRESSES ON THE WORDS: reading, writing and wiping by the layout's places.
use Rattle.std.specs.Prelude.{List, ℕ, ◌≤◌, length, get_or, set, replicate}
use Rattle.std.proofs.lemmas.List.Edits.{sets}
use Rattle.layout.specs.declared.settings.Settings.{Settings}
use Rattle.layout.specs.declared.address.Address.{Address}
use Rattle.layout.specs.Sizes.{block_len, block_start, layout_len}
use Rattle.layout.specs.Address.{offset}

unfoldable pub read_word : Settings → List ℕ → Address → ℕ
read_word s ws a = get_or ws (offset s a) 0

unfoldable pub write_word : Settings → List ℕ → Address → ℕ → List ℕ
write_word s ws a v = set ws (offset s a) v

unfoldable pub wipe_block : Settings → List ℕ → ℕ → List ℕ
wipe_block s ws n = sets ws (block_start s n) (replicate (block_len s) 0)

-- the store is at least as long as its layout
pub record Fits (s : Settings) (ws : List ℕ) : Type 0 where
  pub long : layout_len s ≤ length ws
