-- THE EDGES OF A LOOK-BACK'S REFUSALS 5 TO 12 (document 01, "When a call is turned away"), most of them on `tree`.
use Rattle.std.specs.Prelude.{◌≡◌, List, [], ◌∷◌, ℕ, ◌-◌, replicate}
use Rattle.layout.specs.declared.address.Address.TheVariants.{Head, Time, Field, Slot}
use Rattle.layout.specs.Sizes.{OPEN}
use Rattle.layout.specs.Fields.{head_clock, head_child, closed_word, up_word, left_word, child_word, to_word}
use Rattle.calls.specs.Calls.{Call, Ask, LookBack}
use Rattle.calls.specs.Refusals.{refusal}
use Rattle.calls.specs.Step.{step, tests_of}
use Rattle.calls.specs.Table.{view, one_page}
use Rattle.edges.specs.EdgesStores.{Refuses, Passes, ◌▹◌, ◌≔◌, tree, many}

-- a look-back at t with two buffers of so many words, each 77
abbrev pub asked : ℕ → ℕ → ℕ → Call
asked t rows list = Ask (LookBack t (replicate rows 77) (replicate list 77))

-- refusal 12, and both buffers are filled with zeros
abbrev pub Zeroes : List ℕ → ℕ → ℕ → ℕ → Type 0
Zeroes ws t rows list =
    Refuses 12 ws (asked t rows list) × ((step ws (asked t rows list)).lent ≡ replicate rows 0 ∷ replicate list 0 ∷ [])

-- ---- 5, 7, 11. In `tree` the clock is 9, D is 3 and B is 8.
pub record AskEdges : Type 0 where
  -- 5: "The time is OPEN", before all that follow
  pub time_open : (rows list : List ℕ) → Refuses 5 tree (Ask (LookBack OPEN rows list))
  pub time_last : Passes (tree ▹ Head head_clock ≔ OPEN - 1) (asked (OPEN - 1) 9 8)
  -- 7: "A look-back is later than the clock", before all that follow
  pub late : (rows list : List ℕ) → Refuses 7 tree (Ask (LookBack 10 rows list))
  pub now : Passes tree (asked 9 9 8)
  -- 11: "The row buffer has fewer than 2D words or the list fewer than B"; with rows of three words it is 3D
  pub rows_8 : Refuses 11 tree (asked 8 8 8)
  pub list_7 : Refuses 11 tree (asked 8 9 7)
  pub enough : Passes tree (asked 8 9 8)
  -- before 12, and then the buffers keep their words
  pub rows_first : Refuses 11 (tree ▹ Field 6 up_word ≔ 6) (asked 8 8 8)
  pub list_first : Refuses 11 (tree ▹ Field 6 up_word ≔ 6) (asked 8 9 7)
  pub rows_kept : (step (tree ▹ Field 6 up_word ≔ 6) (asked 8 8 8)).lent ≡ replicate 8 77 ∷ replicate 8 77 ∷ []

-- ---- 12: path and visits, at 8
abbrev pub Sees : List ℕ → Type 0
Sees ws = Passes ws (asked 8 9 8)

abbrev pub Unsound : List ℕ → Type 0
Unsound ws = Zeroes ws 8 9 8

pub record WalkEdges : Type 0 where
  -- the walk that is damaged below: path 6, 2; from 6 a visit of 4, its last child 5 and its left 3; from 2 of 1
  pub sound : (step tree (asked 8 9 8)).answer ≡ view [] (6 ∷ 4 ∷ 5 ∷ 3 ∷ 2 ∷ 1 ∷ []) one_page 1
  -- 12 is among the refusals that are listed for it, and none is for the sound walk
  pub tests_12 : refusal (tests_of (tree ▹ Field 6 up_word ≔ 6) (asked 8 9 8)) ≡ 12
  pub tests_none : refusal (tests_of tree (asked 8 9 8)) ≡ 0
  -- "an up not below its block": the first of the path, and the last; not of a block that is only visited
  pub up_6 : Unsound (tree ▹ Field 6 up_word ≔ 6)
  pub up_5 : Sees (tree ▹ Field 6 up_word ≔ 5)
  pub last_up_2 : Unsound (tree ▹ Field 2 up_word ≔ 2)
  pub last_up_1 : Sees (tree ▹ Field 2 up_word ≔ 1)
  pub up_above : Unsound (tree ▹ Field 2 up_word ≔ 5 ▹ Field 5 up_word ≔ 0)
  pub visited_up : Sees (tree ▹ Field 4 up_word ≔ 4)
  -- "a non-zero left or last child outside the visit's two numbers". From the path "these are the path block's up and
  -- the path block": of the open block 6 its up's last child, between 2 and 6
  pub neighbour_0 : Sees (tree ▹ Field 2 child_word ≔ 0)
  pub neighbour_2 : Unsound (tree ▹ Field 2 child_word ≔ 2)
  pub neighbour_3 : Sees (tree ▹ Field 2 child_word ≔ 3)
  pub neighbour_5 : Sees (tree ▹ Field 2 child_word ≔ 5)
  pub neighbour_6 : Unsound (tree ▹ Field 2 child_word ≔ 6)
  -- of a closed path block its own left
  pub left_2 : Unsound (tree ▹ Field 6 closed_word ≔ 9 ▹ Field 6 left_word ≔ 2)
  pub left_3 : Sees (tree ▹ Field 6 closed_word ≔ 9 ▹ Field 6 left_word ≔ 3)
  pub left_5 : Sees (tree ▹ Field 6 closed_word ≔ 9 ▹ Field 6 left_word ≔ 5)
  pub left_6 : Unsound (tree ▹ Field 6 closed_word ≔ 9 ▹ Field 6 left_word ≔ 6)
  -- of the open block 2, whose up is 0, block 0's last child, between 0 and 2
  pub root_0 : Sees (tree ▹ Head head_child ≔ 0)
  pub root_1 : Sees (tree ▹ Head head_child ≔ 1)
  pub root_2 : Unsound (tree ▹ Head head_child ≔ 2)
  -- "a visited block's last child must lie between it and the upper number": of 4 between 4 and 6
  pub child_0 : Sees (tree ▹ Field 4 child_word ≔ 0)
  pub child_4 : Unsound (tree ▹ Field 4 child_word ≔ 4)
  pub child_5 : Sees (tree ▹ Field 4 child_word ≔ 5)
  pub child_6 : Unsound (tree ▹ Field 4 child_word ≔ 6)
  -- "its left between the lower number and it": of 4 between 2 and 4
  pub visited_left_0 : Sees (tree ▹ Field 4 left_word ≔ 0)
  pub visited_left_2 : Unsound (tree ▹ Field 4 left_word ≔ 2)
  pub visited_left_3 : Sees (tree ▹ Field 4 left_word ≔ 3)
  pub visited_left_4 : Unsound (tree ▹ Field 4 left_word ≔ 4)
  -- "that gap shrinks at each visit": of the last child 5 the left lies above 4, of the left 3 the last child below 4
  pub deep_left_3 : Unsound (tree ▹ Field 5 left_word ≔ 3)
  pub deep_left_4 : Unsound (tree ▹ Field 5 left_word ≔ 4)
  pub deep_child_4 : Unsound (tree ▹ Field 3 child_word ≔ 4)
  pub deep_child_5 : Unsound (tree ▹ Field 3 child_word ≔ 5)
  -- "if it closed at or before t the visit ends": its links are not followed
  pub closed_at : Sees (tree ▹ Field 4 closed_word ≔ 8 ▹ Field 4 child_word ≔ 4 ▹ Field 4 left_word ≔ 4)
  pub closed_after : Unsound (tree ▹ Field 4 closed_word ≔ 9 ▹ Field 4 child_word ≔ 4 ▹ Field 4 left_word ≔ 4)
  -- "more than D rows": three records from 0 to 9 stand at 8; a fourth to 8 does not, and one to 9 does
  pub rows_3 : Sees (tree ▹ Slot 6 0 to_word ≔ 9 ▹ Slot 4 1 to_word ≔ 9 ▹ Slot 1 0 to_word ≔ 9 ▹ Slot 2 0 to_word ≔ 8)
  pub rows_4 : Unsound (tree ▹ Slot 6 0 to_word ≔ 9 ▹ Slot 4 1 to_word ≔ 9 ▹ Slot 1 0 to_word ≔ 9 ▹ Slot 2 0 to_word ≔ 9)

-- ---- 12: the pages of the index. In `many n` a look-back finds block n, which is listed alone and shows no row.
abbrev pub Finds : List ℕ → ℕ → ℕ → List ℕ → ℕ → Type 0
Finds ws t n pages read = (step ws (asked t 3 n)).answer ≡ view [] (n ∷ []) pages read

pub record PageEdges : Type 0 where
  -- "The top level is the lowest that has all entries on one page": from 17 blocks on the middle, from 257 the highest
  pub blocks_16 : Finds (many 16 4673) 5 16 (0 ∷ OPEN ∷ OPEN ∷ []) 1
  pub blocks_17 : Finds (many 17 4691) 5 17 (1 ∷ 0 ∷ OPEN ∷ []) 2
  pub blocks_256 : Finds (many 256 8993) 5 256 (15 ∷ 0 ∷ OPEN ∷ []) 2
  pub blocks_257 : Finds (many 257 9011) 5 257 (16 ∷ 1 ∷ 0 ∷ []) 3
  -- "Entries beyond N are not entries": the third of the middle level is 0, and its page has none
  pub blocks_32 : Finds (many 32 4961) 5 32 (1 ∷ 0 ∷ OPEN ∷ []) 2
  -- "a lower page with no entry up to t": the page that has the last block's entry alone, which is 5; it is the lowest
  -- of two levels, the lowest of three, the middle of three
  pub page_at : Finds (many 17 4691 ▹ Time 0 16 ≔ 5) 5 17 (1 ∷ 0 ∷ OPEN ∷ []) 2
  pub page_before : Zeroes (many 17 4691 ▹ Time 0 16 ≔ 5) 4 3 17
  pub low_at : Finds (many 257 9011 ▹ Time 0 256 ≔ 5) 5 257 (16 ∷ 1 ∷ 0 ∷ []) 3
  pub low_before : Zeroes (many 257 9011 ▹ Time 0 256 ≔ 5) 4 3 257
  pub middle_at : Finds (many 257 9011 ▹ Time 1 16 ≔ 5) 5 257 (16 ∷ 1 ∷ 0 ∷ []) 3
  pub middle_before : Zeroes (many 257 9011 ▹ Time 1 16 ≔ 5) 4 3 257
  -- the top page may have none: "the state is empty after 1 page and 0 blocks"
  pub top_before : (step (many 17 4691 ▹ Time 1 0 ≔ 5 ▹ Time 1 1 ≔ 5) (asked 4 3 17)).answer ≡ view [] [] (OPEN ∷ 0 ∷ OPEN ∷ []) 1
