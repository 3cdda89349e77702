-- THE EDGES OF A CHANGE'S AND A CLOCK MOVE'S REFUSALS 5 TO 13 (document 01, "When a call is turned away").
use Rattle.std.specs.Prelude.{List, ℕ, ◌-◌}
use Rattle.layout.specs.declared.address.Address.TheVariants.{Head, Dir, Field, Bits, Slot}
use Rattle.layout.specs.Sizes.{OPEN}
use Rattle.layout.specs.Fields.{head_blocks, head_fill, opened_word, up_word, right_word, tag_word}
use Rattle.calls.specs.Calls.{Set, Clear, Update, Advance}
use Rattle.edges.specs.EdgesStores.{Refuses, Passes, ◌▹◌, ◌≔◌, fresh, three, brim, out, wide, six}

-- ---- 5, 6, 8, 9, 10: second and tag. In `three` the clock is 9 and D is 6; tag 3 does not stand, tags 2 and 5 do.
pub record TagEdges : Type 0 where
  -- 5: "The time is OPEN", before all that follow
  pub set_open : (tag reading : ℕ) → Refuses 5 three (Set OPEN tag reading)
  pub set_last : Passes three (Set (OPEN - 1) 3 70)
  pub clear_open : (tag : ℕ) → Refuses 5 three (Clear OPEN tag)
  pub clear_last : Passes three (Clear (OPEN - 1) 2)
  pub update_open : (tag reading : ℕ) → Refuses 5 three (Update OPEN tag reading)
  pub update_last : Passes three (Update (OPEN - 1) 2 70)
  pub advance_open : Refuses 5 three (Advance OPEN)
  pub advance_last : Passes three (Advance (OPEN - 1))
  -- 6: "A change or clock move is earlier than the clock", before all that follow
  pub set_early : (tag reading : ℕ) → Refuses 6 three (Set 8 tag reading)
  pub set_now : Passes three (Set 9 3 70)
  pub clear_early : (tag : ℕ) → Refuses 6 three (Clear 8 tag)
  pub clear_now : Passes three (Clear 9 2)
  pub update_early : (tag reading : ℕ) → Refuses 6 three (Update 8 tag reading)
  pub update_now : Passes three (Update 9 2 70)
  pub advance_early : Refuses 6 three (Advance 8)
  pub advance_now : Passes three (Advance 9)
  -- 8: "The tag is D or more", before 9 (the word behind the directory is not 0) and before 10 (it is 0)
  pub set_tag_6 : (reading : ℕ) → Refuses 8 three (Set 9 6 reading)
  pub set_tag_5 : Passes (three ▹ Dir 5 ≔ 0) (Set 9 5 70)
  pub clear_tag_6 : Refuses 8 (three ▹ Field 1 opened_word ≔ 0) (Clear 9 6)
  pub clear_tag_5 : Passes three (Clear 9 5)
  pub update_tag_6 : (reading : ℕ) → Refuses 8 (three ▹ Field 1 opened_word ≔ 0) (Update 9 6 reading)
  pub update_tag_5 : Passes three (Update 9 5 70)
  -- 9: "A set finds a directory word that is not 0"; before 12 and 13
  pub set_1 : Refuses 9 (three ▹ Dir 3 ≔ 1) (Set 9 3 70)
  pub set_most : Refuses 9 (three ▹ Dir 3 ≔ OPEN) (Set 9 3 70)
  pub set_0 : Passes (three ▹ Dir 3 ≔ 0) (Set 9 3 70)
  pub set_first : Refuses 9 (out ▹ Field 3 up_word ≔ 3) (Set 9 2 70)
  -- 10: "A clear or new reading finds 0"; any other word is a place, and looked at by 12
  pub clear_0 : Refuses 10 (three ▹ Dir 3 ≔ 0) (Clear 9 3)
  pub clear_1 : Refuses 12 (three ▹ Dir 3 ≔ 1) (Clear 9 3)
  pub update_0 : Refuses 10 (three ▹ Dir 3 ≔ 0) (Update 9 3 70)
  pub update_1 : Refuses 12 (three ▹ Dir 3 ≔ 1) (Update 9 3 70)

-- ---- a clear and a new reading of a tag, at 9
abbrev pub BothRefuse : ℕ → List ℕ → ℕ → Type 0
BothRefuse n ws tag = Refuses n ws (Clear 9 tag) × Refuses n ws (Update 9 tag 70)

abbrev pub BothPass : List ℕ → ℕ → Type 0
BothPass ws tag = Passes ws (Clear 9 tag) × Passes ws (Update 9 tag 70)

-- ---- 12: the place of the tag. Tag 2 has place 14, the last record placed: slot 3 of block 3.
pub record PlaceEdges : Type 0 where
  pub sound : BothPass three 2
  -- "a place above the records placed": with one record fewer; and where none is placed
  pub above : BothRefuse 12 (three ▹ Head head_fill ≔ 3) 2
  pub above_none : BothRefuse 12 (fresh ▹ Bits 1 0 ≔ 1 ▹ Dir 0 ≔ 1) 0
  -- those of an earlier block are placed, however few the acceptor has (tag 1 stands in block 2)
  pub earlier : BothPass (three ▹ Head head_fill ≔ 1) 1
  -- "or whose record has another tag"
  pub tag_below : BothRefuse 12 (three ▹ Slot 3 3 tag_word ≔ 1) 2
  pub tag_above : BothRefuse 12 (three ▹ Slot 3 3 tag_word ≔ 3) 2
  -- "or no standing bit": none at all; all others
  pub no_bit : BothRefuse 12 (three ▹ Bits 3 0 ≔ 0) 2
  pub other_bits : BothRefuse 12 (three ▹ Bits 3 0 ≔ 23) 2
  -- that of slot 32 is in the high word, not in the low one
  pub high_bit : BothPass wide 2
  pub low_bit : BothRefuse 12 (wide ▹ Bits 2 1 ≔ 0 ▹ Bits 2 0 ≔ 1) 2

-- ---- 12: the tag's block will close. Tags 0 and 1 stand in slots 0 and 2 of block 2: one remains, fewer than q; N
-- is 3 and B is 7.
pub record TagBlockEdges : Type 0 where
  pub sound : BothPass three 0
  -- "an up not below it"
  pub up_0 : BothPass (three ▹ Field 2 up_word ≔ 0) 0
  pub up_1 : BothPass (three ▹ Field 2 up_word ≔ 1) 0
  pub up_2 : BothRefuse 12 (three ▹ Field 2 up_word ≔ 2) 0
  -- "a right .. not above it and up to N"
  pub right_0 : BothRefuse 12 (three ▹ Field 2 right_word ≔ 0) 0
  pub right_2 : BothRefuse 12 (three ▹ Field 2 right_word ≔ 2) 0
  pub right_3 : BothPass (three ▹ Field 2 right_word ≔ 3) 0
  pub right_4 : BothRefuse 12 (three ▹ Field 2 right_word ≔ 4) 0
  -- it need not be the next block (tag 4 stands in block 1)
  pub right_next : BothPass (three ▹ Field 1 right_word ≔ 2) 4
  pub right_last : BothPass (three ▹ Field 1 right_word ≔ 3) 4
  -- "a standing bit at b or higher": slot 4, slot 5, and slot 32 in the high word
  pub bit_4 : BothPass (three ▹ Bits 2 0 ≔ 17) 0
  pub bit_5 : BothRefuse 12 (three ▹ Bits 2 0 ≔ 33) 0
  pub bit_32 : BothRefuse 12 (three ▹ Bits 2 0 ≔ 1 ▹ Bits 2 1 ≔ 1) 0
  -- "a standing tag of D or more"
  pub tag_5 : BothPass (three ▹ Slot 2 2 tag_word ≔ 5) 0
  pub tag_6 : BothRefuse 12 (three ▹ Slot 2 2 tag_word ≔ 6) 0
  -- the tag of an ended record is not looked at
  pub ended_tag_6 : BothPass (three ▹ Slot 2 1 tag_word ≔ 6) 0
  -- nor is a block that will not close: three stand, so that q remain; one of them in the high word
  pub stays : BothPass (three ▹ Bits 2 0 ≔ 7 ▹ Field 2 up_word ≔ 2 ▹ Field 2 right_word ≔ 2 ▹ Slot 2 2 tag_word ≔ 6) 0
  pub stays_high : BothPass (three ▹ Bits 2 1 ≔ 1 ▹ Field 2 up_word ≔ 2) 0
  -- nor the acceptor, which a clear does not judge: tag 2 stands there alone
  pub acceptor_stays : BothPass (three ▹ Field 3 up_word ≔ 3) 2

-- ---- 12: the acceptor will close. In `brim` it is full and tag 2 alone stands in it. A block opens for a set's
-- record, for the copy of tag 1 that a clear of tag 0 makes, and for that copy with the record of a new reading.
abbrev pub EachRefuses : ℕ → List ℕ → Type 0
EachRefuses n ws = Refuses n ws (Set 9 3 70) × Refuses n ws (Clear 9 0) × Refuses n ws (Update 9 0 70)

abbrev pub EachPasses : List ℕ → Type 0
EachPasses ws = Passes ws (Set 9 3 70) × Passes ws (Clear 9 0) × Passes ws (Update 9 0 70)

pub record AcceptorEdges : Type 0 where
  pub sound : EachPasses brim
  -- "an up not below it"
  pub up_2 : EachPasses (brim ▹ Field 3 up_word ≔ 2)
  pub up_3 : EachRefuses 12 (brim ▹ Field 3 up_word ≔ 3)
  -- "a right (unless it is the acceptor)": any
  pub right_3 : EachPasses (brim ▹ Field 3 right_word ≔ 3)
  pub right_4 : EachPasses (brim ▹ Field 3 right_word ≔ 4)
  pub right_8 : EachPasses (brim ▹ Field 3 right_word ≔ 8)
  -- "a standing bit at b or higher"
  pub bit_4 : EachPasses (brim ▹ Bits 3 0 ≔ 16)
  pub bit_5 : EachRefuses 12 (brim ▹ Bits 3 0 ≔ 32)
  pub bit_32 : EachRefuses 12 (brim ▹ Bits 3 0 ≔ 0 ▹ Bits 3 1 ≔ 1)
  -- "a standing tag of D or more"
  pub tag_5 : EachPasses (brim ▹ Slot 3 3 tag_word ≔ 5)
  pub tag_6 : EachRefuses 12 (brim ▹ Slot 3 3 tag_word ≔ 6)
  -- it will not close: q stand in it; or there is room for all that come
  pub stays : EachPasses (brim ▹ Bits 3 0 ≔ 9 ▹ Field 3 up_word ≔ 3)
  pub room : EachPasses (three ▹ Head head_fill ≔ 3 ▹ Field 3 up_word ≔ 3)
  -- or none comes: block 2 keeps q records, or closes with none, or the tag is the acceptor's own
  pub no_copy : Passes (brim ▹ Bits 2 0 ≔ 7 ▹ Field 3 up_word ≔ 3) (Clear 9 0)
  pub none_left : Passes (brim ▹ Bits 2 0 ≔ 1 ▹ Field 3 up_word ≔ 3) (Clear 9 0)
  pub own_clear : Passes (brim ▹ Field 3 up_word ≔ 3) (Clear 9 2)
  -- its free slots are taken before it is judged, and stand then: here slot 4, by the copy
  pub taken : Passes (three ▹ Field 3 up_word ≔ 3) (Update 9 0 70)
  pub taken_alone : Refuses 12 (three ▹ Bits 3 0 ≔ 0 ▹ Field 3 up_word ≔ 3) (Update 9 0 70)
  pub taken_once : Refuses 12 (three ▹ Bits 3 0 ≔ 16 ▹ Field 3 up_word ≔ 3) (Update 9 0 70)
  -- slot 32, in the high word
  pub taken_high : Passes (wide ▹ Head head_fill ≔ 32 ▹ Bits 2 1 ≔ 0 ▹ Bits 2 0 ≔ 1 ▹ Field 2 up_word ≔ 2) (Update 9 0 70)
  pub taken_high_alone : Refuses 12 (wide ▹ Head head_fill ≔ 32 ▹ Bits 2 1 ≔ 0 ▹ Field 2 up_word ≔ 2) (Update 9 0 70)
  -- slots 4 and 5, by two copies, where q is 3
  pub taken_two : Passes (six ▹ Field 2 up_word ≔ 2) (Update 9 0 70)
  pub taken_two_alone : Refuses 12 (six ▹ Bits 2 0 ≔ 0 ▹ Field 2 up_word ≔ 2) (Update 9 0 70)
  -- where the tag's own record lies there, it has ended by then: of three q stand, of two fewer than q
  pub own_three : Passes (brim ▹ Bits 3 0 ≔ 11 ▹ Field 3 up_word ≔ 3) (Update 9 2 70)
  pub own_two : Refuses 12 (brim ▹ Bits 3 0 ≔ 10 ▹ Field 3 up_word ≔ 3) (Update 9 2 70)
  pub own_high_three : Passes (wide ▹ Bits 2 0 ≔ 3 ▹ Field 2 up_word ≔ 2) (Update 9 2 70)
  pub own_high_two : Refuses 12 (wide ▹ Bits 2 0 ≔ 1 ▹ Field 2 up_word ≔ 2) (Update 9 2 70)

-- ---- 13: "The change would open a block and N = B". In `out` N and B are 3 and the acceptor is full.
pub record RoomEdges : Type 0 where
  pub none_left : EachRefuses 13 out
  -- "N = B": with one block more they pass
  pub one_left : EachPasses (out ▹ Head head_blocks ≔ 4)
  -- "would open a block": one free slot is room for the set or one copy, two for copy and new reading
  pub set_room : Passes (out ▹ Head head_fill ≔ 4) (Set 9 3 70)
  pub clear_room : Passes (out ▹ Head head_fill ≔ 4) (Clear 9 0)
  pub update_less : Refuses 13 (out ▹ Head head_fill ≔ 4) (Update 9 0 70)
  pub update_room : Passes (out ▹ Head head_fill ≔ 3) (Update 9 0 70)
  -- no copy: block 2 keeps q records, or closes with none
  pub clear_stays : Passes (out ▹ Bits 2 0 ≔ 7) (Clear 9 0)
  pub clear_none : Passes (out ▹ Bits 2 0 ≔ 1) (Clear 9 0)
  pub update_stays : Refuses 13 (out ▹ Bits 2 0 ≔ 7) (Update 9 0 70)
  pub update_one : Passes (out ▹ Bits 2 0 ≔ 7 ▹ Head head_fill ≔ 4) (Update 9 0 70)
  -- a tag of the acceptor
  pub own_clear : Passes out (Clear 9 2)
  pub own_update : Refuses 13 out (Update 9 2 70)
  pub own_room : Passes (out ▹ Head head_fill ≔ 4) (Update 9 2 70)
  -- the first block
  pub first : Passes fresh (Set 0 0 70)
  -- 12 before 13: a block that would close is looked at "13 aside"
  pub acceptor_first : EachRefuses 12 (out ▹ Field 3 up_word ≔ 3)
  pub tag_block_first : BothRefuse 12 (out ▹ Field 2 up_word ≔ 2) 0
