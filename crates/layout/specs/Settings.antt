-- THE LIMITS OF THE SETTINGS (document 01, "The lent store"), and what the constructor answers.
use Rattle.std.specs.Prelude.{Bool, cond, ◌&&◌, ℕ, ◌*◌, ◌≤◌, leb, Result, Ok, Err}
use Rattle.layout.specs.declared.settings.Settings.{Settings}
use Rattle.layout.specs.declared.refusal.Refusal.{Refusal}
use Rattle.layout.specs.declared.refusal.Refusal.TheVariants as refusal

-- b, q, B and D as one value
abbrev pub settings_of : ℕ → ℕ → ℕ → ℕ → Settings
settings_of block useful blocks tags = record { block = block; useful = useful; blocks = blocks; tags = tags }

-- b 2 to 64, q at least 1 with 2q ≤ b, block limit B 1 to 4,096, D 1 to 4,096
unfoldable pub in_limits : Settings → Bool
in_limits s =
    leb 2 s.block && (leb s.block 64
    && (leb 1 s.useful && (leb (2 * s.useful) s.block
    && (leb 1 s.blocks && (leb s.blocks 4096
    && (leb 1 s.tags && leb s.tags 4096))))))

-- refusal 1 for exactly the settings outside of them
unfoldable pub settings_answer : ℕ → ℕ → ℕ → ℕ → Result Settings Refusal
settings_answer block useful blocks tags =
    let s : Settings = settings_of block useful blocks tags in
    cond (in_limits s) (Ok s) (Err refusal.Settings)

-- the limits as facts
pub record Within (s : Settings) : Type 0 where
  pub least : 2 ≤ s.block
  pub most : s.block ≤ 64
  pub some : 1 ≤ s.useful
  pub half : 2 * s.useful ≤ s.block
  pub one_block : 1 ≤ s.blocks
  pub blocks : s.blocks ≤ 4096
  pub one_tag : 1 ≤ s.tags
  pub tags : s.tags ≤ 4096
