-- THE EDGES OF WHAT IS WRITTEN: words that no answer after an honest history tells of, so that no other claim pins them.
use Rattle.std.specs.Prelude.{◌≡◌, List, [], ◌∷◌, ℕ, drop, take, replicate}
use Rattle.layout.specs.declared.address.Address.TheVariants.{Bits, Field, Slot}
use Rattle.layout.specs.Sizes.{OPEN, head_len}
use Rattle.layout.specs.Fields.{left_word, child_word, right_word, reading_word, since_word}
use Rattle.layout.specs.Parts.{block_part}
use Rattle.calls.specs.Calls.{Start, Set}
use Rattle.calls.specs.Step.{step, words_read}
use Rattle.calls.specs.Table.{after8}
use Rattle.calls.specs.Table as table
use Rattle.edges.specs.EdgesStores.{◌▹◌, ◌≔◌, settings, brim}
use Rattle.edges.specs.EdgesLookBack.{asked}

-- block 4 of a store whose block 3 is full, with words that no history left in it
abbrev pub littered : List ℕ
littered =
    brim ▹ Field 4 left_word ≔ 1 ▹ Field 4 child_word ≔ 2 ▹ Field 4 right_word ≔ 3 ▹ Bits 4 0 ≔ 16 ▹ Bits 4 1 ≔ 5
    ▹ Slot 4 4 reading_word ≔ 6 ▹ Slot 4 4 since_word ≔ 7

pub record WordEdges : Type 0 where
  -- "Start fills the layout with zeros, then the head (clock 0); words beyond it are untouched."
  pub start_beyond : drop 4624 (step (replicate 4626 9) (Start table.settings)).store ≡ 9 ∷ 9 ∷ []
  -- the head after a closing: last child of block 0 is block 1, and right of block 0 is block 2
  pub head_after_8 : take head_len after8 ≡ 7001 ∷ 4 ∷ 2 ∷ 8 ∷ 16 ∷ 2 ∷ 8 ∷ 2 ∷ 1 ∷ 2 ∷ 0 ∷ 0 ∷ 0 ∷ 0 ∷ 0 ∷ 0 ∷ []
  -- "block N + 1 opens at the present second, all its other words but closed and up being set to zero": here block 4, with a copy of tag 2 from block 3,
  -- which closes (so that block 4's up becomes block 3's), and then tag 3
  pub opened : block_part settings (step littered (Set 12 3 70)).store 4
      ≡ 12 ∷ OPEN ∷ 2 ∷ 0 ∷ 0 ∷ 0 ∷ 3 ∷ 0 ∷ 2 ∷ 23 ∷ 12 ∷ OPEN ∷ 9 ∷ 3 ∷ 70 ∷ 12 ∷ OPEN ∷ 12 ∷ replicate 15 0
  -- a damaged since is shown as it is: of tag 4, and no other word
  pub damaged_since : (step (after8 ▹ Slot 2 1 since_word ≔ OPEN) (asked 8 48 8)).answer
      ≡ table.view (table.row 5 0 5 ∷ table.row 4 140 OPEN ∷ []) (2 ∷ 1 ∷ []) table.one_page 1
  -- and is carried along by a copy: that of tag 2, from block 3 to block 4, as above
  pub damaged_since_copied : words_read (step (brim ▹ Slot 3 3 since_word ≔ OPEN) (Set 12 3 70)).store (Slot 4 0 since_word) ≡ OPEN
