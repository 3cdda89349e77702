-- PARTS OF THE STORE: a numbered block, a level of the index, a page inside its level; and the words of a block that is handed out.
use Rattle.std.specs.Prelude.{List, ℕ, ◌+◌, ◌*◌, get_or, take, drop}
use Rattle.layout.specs.declared.settings.Settings.{Settings}
use Rattle.layout.specs.Sizes.{level_len, level_start, page_len, block_head, record_len, block_len, block_start}

-- n words from a on
abbrev pub part : List ℕ → ℕ → ℕ → List ℕ
part ws a n = take n (drop a ws)

unfoldable pub block_part : Settings → List ℕ → ℕ → List ℕ
block_part s ws n = part ws (block_start s n) (block_len s)

unfoldable pub level_part : List ℕ → ℕ → List ℕ
level_part ws l = part ws (level_start l) (level_len l)

-- page e, counted from 0 in its level
unfoldable pub page_part : List ℕ → ℕ → List ℕ
page_part level e = part level (e * page_len) page_len

-- a second or link of a block
unfoldable pub block_word : List ℕ → ℕ → ℕ
block_word block j = get_or block j 0

-- a word of the record in slot k of a block
unfoldable pub slot_word : List ℕ → ℕ → ℕ → ℕ
slot_word block k i = get_or block (block_head + (record_len * k + i)) 0
