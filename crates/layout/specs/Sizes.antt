-- THE NUMBERS OF WORDS (document 01, "The lent store"). They stand here and in src/sizes.rt and nowhere else in definitions and code; other crates'
-- definitions and code name OPEN, head_len, page_len, row_len and layout_len, timeslice's contracts and the proofs some more. (The tables and the test programs have examples with words by number.)
use Rattle.std.specs.Prelude.{ℕ, zero, suc, ◌+◌, ◌*◌, ◌-◌}
use Rattle.layout.specs.declared.settings.Settings.{Settings}

-- an end not yet known
abbrev pub OPEN : ℕ
OPEN = 4294967295

-- the first word of a head that a start left
abbrev pub mark : ℕ
mark = 7001

abbrev pub head_len : ℕ
head_len = 16

-- a page is 16 words inside its level
abbrev pub page_len : ℕ
page_len = 16

-- opened, closed, up, left, last child, right, standing bits low, standing bits high
abbrev pub block_head : ℕ
block_head = 8

-- the two words of standing bits stand behind the six of seconds and links
abbrev pub bits_start : ℕ
bits_start = 6

-- tag, reading, from, to, since
abbrev pub record_len : ℕ
record_len = 5

-- a row that a look-back gives: tag, reading, since
abbrev pub row_len : ℕ
row_len = 3

-- the index: three levels behind the head, each with its pages
abbrev pub level_len : ℕ → ℕ
level_len zero = 4096
level_len (suc zero) = 256
level_len (suc (suc l)) = 16

abbrev pub level_start : ℕ → ℕ
level_start zero = 16
level_start (suc zero) = 4112
level_start (suc (suc l)) = 4368

-- the directory behind the index, one word a tag
abbrev pub dir_start : ℕ
dir_start = 4384

-- the blocks behind the directory
unfoldable pub block_len : Settings → ℕ
block_len s = block_head + record_len * s.block

abbrev pub block_start : Settings → ℕ → ℕ
block_start s n = dir_start + s.tags + (n - 1) * block_len s

-- how long a store must be
unfoldable pub layout_len : Settings → ℕ
layout_len s = dir_start + s.tags + s.blocks * block_len s

-- with every setting at its limit
abbrev pub block_most : ℕ
block_most = block_head + record_len * 64

abbrev pub layout_most : ℕ
layout_most = dir_start + 4096 + 4096 * block_most
