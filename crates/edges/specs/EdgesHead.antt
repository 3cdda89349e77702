-- THE EDGES OF REFUSALS 1 TO 4 (document 01, "When a call is turned away").
use Rattle.std.specs.Prelude.{◌≡◌, List, ℕ, ◌+◌, ◌-◌, length, take, replicate}
use Rattle.layout.specs.declared.settings.Settings.{Settings}
use Rattle.layout.specs.declared.address.Address.TheVariants.{Head}
use Rattle.layout.specs.Sizes.{OPEN}
use Rattle.layout.specs.Fields.{head_mark, head_block, head_useful, head_blocks, head_tags, head_opened, head_clock, head_fill, head_spare}
use Rattle.layout.specs.Settings.{settings_of}
use Rattle.calls.specs.Calls.{Start, Advance}
use Rattle.edges.specs.EdgesStores.{Refuses, Passes, AllRefuse, ◌▹◌, ◌≔◌, settings, head_only, three}

-- ---- a start
-- refusal 1, on any words
abbrev pub Unfit : Settings → Type 0
Unfit s = (ws : List ℕ) → Refuses 1 ws (Start s)

-- no refusal 1: the start passes on any n words, and n − 1 words give 4
pub record Fit (n : ℕ) (s : Settings) : Type 0 where
  pub passes : (ws : List ℕ) → length ws ≡ n → Passes ws (Start s)
  pub short : (ws : List ℕ) → length ws ≡ n - 1 → Refuses 4 ws (Start s)

pub record StartEdges : Type 0 where
  -- 1: "b 2 to 64"
  pub b_1 : (q blocks tags : ℕ) → Unfit (settings_of 1 q blocks tags)
  pub b_2 : Fit 4403 (settings_of 2 1 1 1)
  pub b_64 : Fit 4713 (settings_of 64 1 1 1)
  pub b_65 : Unfit (settings_of 65 1 1 1)
  -- "q at least 1 with 2q ≤ b"
  pub q_0 : Unfit (settings_of 2 0 1 1)
  pub q_half : Fit 4413 (settings_of 4 2 1 1)
  pub q_above_half : Unfit (settings_of 4 3 1 1)
  pub b_below_double : Unfit (settings_of 3 2 1 1)
  -- "block limit B 1 to 4,096"
  pub blocks_0 : Unfit (settings_of 2 1 0 1)
  pub blocks_4096 : Fit 78113 (settings_of 2 1 4096 1)
  pub blocks_4097 : Unfit (settings_of 2 1 4097 1)
  -- "D 1 to 4,096"
  pub tags_0 : Unfit (settings_of 2 1 1 0)
  pub tags_4096 : Fit 8498 (settings_of 2 1 1 4096)
  pub tags_4097 : Unfit (settings_of 2 1 1 4097)
  -- 2: "The store has fewer than 16 words"; with 16 it is 4
  pub words_15 : (ws : List ℕ) → length ws ≡ 15 → Refuses 2 ws (Start settings)
  pub words_16 : (ws : List ℕ) → length ws ≡ 16 → Refuses 4 ws (Start settings)

-- ---- every other call; 16 words that are a sound head give 4
pub record HeadEdges : Type 0 where
  -- 2: "The store has fewer than 16 words"
  pub words_15 : (ws : List ℕ) → length ws ≡ 15 → AllRefuse 2 ws
  pub words_16 : AllRefuse 3 (replicate 16 0)
  pub sound : AllRefuse 4 head_only
  -- 3: "another mark"
  pub mark_below : AllRefuse 3 (head_only ▹ Head head_mark ≔ 7000)
  pub mark_above : AllRefuse 3 (head_only ▹ Head head_mark ≔ 7002)
  -- "settings outside limits": b
  pub b_1 : AllRefuse 3 (head_only ▹ Head head_useful ≔ 1 ▹ Head head_block ≔ 1)
  pub b_2 : AllRefuse 4 (head_only ▹ Head head_useful ≔ 1 ▹ Head head_block ≔ 2)
  pub b_64 : AllRefuse 4 (head_only ▹ Head head_block ≔ 64)
  pub b_65 : AllRefuse 3 (head_only ▹ Head head_block ≔ 65)
  -- q, which is 2 in this head
  pub q_0 : AllRefuse 3 (head_only ▹ Head head_useful ≔ 0)
  pub q_1 : AllRefuse 4 (head_only ▹ Head head_useful ≔ 1)
  pub q_half : AllRefuse 4 (head_only ▹ Head head_block ≔ 4)
  pub q_above_half : AllRefuse 3 (head_only ▹ Head head_block ≔ 3)
  -- B
  pub blocks_0 : AllRefuse 3 (head_only ▹ Head head_blocks ≔ 0)
  pub blocks_1 : AllRefuse 4 (head_only ▹ Head head_blocks ≔ 1)
  pub blocks_4096 : AllRefuse 4 (head_only ▹ Head head_blocks ≔ 4096)
  pub blocks_4097 : AllRefuse 3 (head_only ▹ Head head_blocks ≔ 4097)
  -- D
  pub tags_0 : AllRefuse 3 (head_only ▹ Head head_tags ≔ 0)
  pub tags_1 : AllRefuse 4 (head_only ▹ Head head_tags ≔ 1)
  pub tags_4096 : AllRefuse 4 (head_only ▹ Head head_tags ≔ 4096)
  pub tags_4097 : AllRefuse 3 (head_only ▹ Head head_tags ≔ 4097)
  -- "N above B", which is 7
  pub opened_all : AllRefuse 4 (head_only ▹ Head head_fill ≔ 1 ▹ Head head_opened ≔ 7)
  pub opened_above : AllRefuse 3 (head_only ▹ Head head_fill ≔ 1 ▹ Head head_opened ≔ 8)
  -- "clock OPEN"
  pub clock_last : AllRefuse 4 (head_only ▹ Head head_clock ≔ OPEN - 1)
  pub clock_open : AllRefuse 3 (head_only ▹ Head head_clock ≔ OPEN)
  -- "one of its last six words not zero"
  pub spare_1 : AllRefuse 3 (head_only ▹ Head head_spare ≔ 1)
  pub spare_2 : AllRefuse 3 (head_only ▹ Head (head_spare + 1) ≔ 1)
  pub spare_3 : AllRefuse 3 (head_only ▹ Head (head_spare + 2) ≔ 1)
  pub spare_4 : AllRefuse 3 (head_only ▹ Head (head_spare + 3) ≔ 1)
  pub spare_5 : AllRefuse 3 (head_only ▹ Head (head_spare + 4) ≔ 1)
  pub spare_6 : AllRefuse 3 (head_only ▹ Head (head_spare + 5) ≔ 1)
  -- "a fill not 1 to b", which is 5
  pub fill_0 : AllRefuse 3 (head_only ▹ Head head_opened ≔ 1 ▹ Head head_fill ≔ 0)
  pub fill_1 : AllRefuse 4 (head_only ▹ Head head_opened ≔ 1 ▹ Head head_fill ≔ 1)
  pub fill_5 : AllRefuse 4 (head_only ▹ Head head_opened ≔ 1 ▹ Head head_fill ≔ 5)
  pub fill_6 : AllRefuse 3 (head_only ▹ Head head_opened ≔ 1 ▹ Head head_fill ≔ 6)
  -- "(not 0, for N = 0)"
  pub fill_none : AllRefuse 3 (head_only ▹ Head head_fill ≔ 1)
  -- 4: "The store is shorter than its layout", of 4,621 words
  pub short : AllRefuse 4 (take 4620 three)
  pub long : Passes (take 4621 three) (Advance 9)
