-- THE EDGES OF A WINDOW (document 02, request 2): of refusals 5, 14, 7, 11 and 12, and of which blocks and records it reads, most of them on `three`.
-- There the clock is 9, D is 6, and a buffer of 18 words is enough.
use Rattle.std.specs.Prelude.{◌≡◌, List, [], ◌∷◌, ◌++◌, ℕ, ◌*◌, ◌-◌, length, replicate}
use Rattle.layout.specs.declared.address.Address.TheVariants.{Head, Field, Slot}
use Rattle.layout.specs.Sizes.{OPEN}
use Rattle.layout.specs.Fields.{head_opened, head_clock, opened_word, closed_word, tag_word, from_word, to_word}
use Rattle.calls.specs.Calls.{Row, Window, Numbers, Refused, QueryReply}
use Rattle.calls.specs.LookBack.{row_words}
use Rattle.calls.specs.Step.{answer_to}
use Rattle.calls.specs.Table.{row}
use Rattle.edges.specs.EdgesStores.{◌▹◌, ◌≔◌, fresh, three}

-- a window with a buffer of so many words, each 77
abbrev pub crosses : List ℕ → ℕ → ℕ → ℕ → QueryReply
crosses ws first last words = answer_to ws (Window first last (replicate words 77))

-- it gives these rows, in the first of so many words: the rest keep their contents
abbrev pub gives : List Row → ℕ → QueryReply
gives rows words = record { answer = Numbers (length rows ∷ []); lent = (row_words rows ++ replicate (words - 3 * length rows) 77) ∷ [] }

-- it is turned away, and the buffer keeps its words; with 12 all of them are zero
abbrev pub turns : ℕ → ℕ → QueryReply
turns number words = record { answer = Refused number; lent = replicate words 77 ∷ [] }

abbrev pub zeroes : ℕ → QueryReply
zeroes words = record { answer = Refused 12; lent = replicate words 0 ∷ [] }

-- ---- 5, 14, 7, 11
pub record RangeEdges : Type 0 where
  -- 5, "which both times must pass", before all that follow
  pub first_open : (rows : List ℕ) → answer_to three (Window OPEN 3 rows) ≡ record { answer = Refused 5; lent = rows ∷ [] }
  pub last_open : (rows : List ℕ) → answer_to three (Window 3 OPEN rows) ≡ record { answer = Refused 5; lent = rows ∷ [] }
  pub both_open : (rows : List ℕ) → answer_to three (Window OPEN OPEN rows) ≡ record { answer = Refused 5; lent = rows ∷ [] }
  pub both_last : crosses (fresh ▹ Head head_clock ≔ OPEN - 1) (OPEN - 1) (OPEN - 1) 18 ≡ gives [] 18
  -- 14, "t2 before t1, after refusal 5", before 7
  pub reversed : (rows : List ℕ) → answer_to three (Window 3 2 rows) ≡ record { answer = Refused 14; lent = rows ∷ [] }
  pub reversed_late : (rows : List ℕ) → answer_to three (Window 11 10 rows) ≡ record { answer = Refused 14; lent = rows ∷ [] }
  -- "refusal 7 looks at t2", before 11
  pub late : (rows : List ℕ) → answer_to three (Window 3 10 rows) ≡ record { answer = Refused 7; lent = rows ∷ [] }
  pub now : crosses three 9 9 18 ≡ gives (row 0 15 2 ∷ row 1 17 2 ∷ row 2 23 9 ∷ row 4 10 1 ∷ row 5 11 1 ∷ []) 18
  -- 11: three words a row, "without a list", before 12
  pub words_17 : crosses (three ▹ Slot 3 3 tag_word ≔ 6) 9 9 17 ≡ turns 11 17
  pub words_19 : crosses three 9 9 19 ≡ gives (row 0 15 2 ∷ row 1 17 2 ∷ row 2 23 9 ∷ row 4 10 1 ∷ row 5 11 1 ∷ []) 19
  -- no block is opened
  pub none : crosses fresh 0 0 18 ≡ gives [] 18

-- ---- which blocks are read: "those opened by t2 and not closed by t1"
-- at 2 tags 4 and 5 stand in block 1, tags 0, 1, 2 and 3 in block 2
pub record ReadEdges : Type 0 where
  pub both : crosses three 2 2 18 ≡ gives (row 0 15 2 ∷ row 1 17 2 ∷ row 2 16 2 ∷ row 3 19 2 ∷ row 4 10 1 ∷ row 5 11 1 ∷ []) 18
  pub opened_at : crosses (three ▹ Field 1 opened_word ≔ 2) 2 2 18
      ≡ gives (row 0 15 2 ∷ row 1 17 2 ∷ row 2 16 2 ∷ row 3 19 2 ∷ row 4 10 1 ∷ row 5 11 1 ∷ []) 18
  pub opened_after : crosses (three ▹ Field 1 opened_word ≔ 3) 2 2 18 ≡ gives (row 0 15 2 ∷ row 1 17 2 ∷ row 2 16 2 ∷ row 3 19 2 ∷ []) 18
  pub closed_at : crosses (three ▹ Field 1 closed_word ≔ 2) 2 2 18 ≡ gives (row 0 15 2 ∷ row 1 17 2 ∷ row 2 16 2 ∷ row 3 19 2 ∷ []) 18
  pub closed_after : crosses (three ▹ Field 1 closed_word ≔ 3) 2 2 18
      ≡ gives (row 0 15 2 ∷ row 1 17 2 ∷ row 2 16 2 ∷ row 3 19 2 ∷ row 4 10 1 ∷ row 5 11 1 ∷ []) 18
  -- "blocks 1 to N": a record in block 4 counts once it is opened
  pub acceptor : crosses three 3 4 18 ≡ gives (row 0 15 2 ∷ row 1 17 2 ∷ row 3 21 4 ∷ row 4 10 1 ∷ row 5 11 1 ∷ []) 18
  pub beyond : crosses (three ▹ Field 4 closed_word ≔ OPEN ▹ Slot 4 0 tag_word ≔ 2 ▹ Slot 4 0 to_word ≔ OPEN) 3 4 18
      ≡ gives (row 0 15 2 ∷ row 1 17 2 ∷ row 3 21 4 ∷ row 4 10 1 ∷ row 5 11 1 ∷ []) 18
  pub within : crosses (three ▹ Head head_opened ≔ 4 ▹ Field 4 closed_word ≔ OPEN ▹ Slot 4 0 tag_word ≔ 2 ▹ Slot 4 0 to_word ≔ OPEN) 3 4 18
      ≡ gives (row 0 15 2 ∷ row 1 17 2 ∷ row 2 0 0 ∷ row 3 21 4 ∷ row 4 10 1 ∷ row 5 11 1 ∷ []) 18
  -- "all b slots": also one that no record was placed in
  pub unused : crosses (three ▹ Slot 3 4 tag_word ≔ 2 ▹ Slot 3 4 to_word ≔ 4) 3 4 18
      ≡ gives (row 0 15 2 ∷ row 1 17 2 ∷ row 2 0 0 ∷ row 3 21 4 ∷ row 4 10 1 ∷ row 5 11 1 ∷ []) 18

-- ---- which records stood in it, and which is latest. Tag 3 stood from 3 to 3, 4 to 4 and 5 to 5, in places 11, 12 and 13.
pub record StoodEdges : Type 0 where
  pub from_first : crosses three 5 8 18 ≡ gives (row 0 15 2 ∷ row 1 17 2 ∷ row 3 22 5 ∷ row 4 10 1 ∷ row 5 11 1 ∷ []) 18
  pub after_it : crosses three 6 8 18 ≡ gives (row 0 15 2 ∷ row 1 17 2 ∷ row 4 10 1 ∷ row 5 11 1 ∷ []) 18
  pub to_last : crosses three 4 5 18 ≡ gives (row 0 15 2 ∷ row 1 17 2 ∷ row 3 22 5 ∷ row 4 10 1 ∷ row 5 11 1 ∷ []) 18
  pub before_it : crosses three 4 4 18 ≡ gives (row 0 15 2 ∷ row 1 17 2 ∷ row 3 21 4 ∷ row 4 10 1 ∷ row 5 11 1 ∷ []) 18
  -- one whose from is its to, or after it, stood at no second
  pub brief : crosses (three ▹ Slot 3 2 to_word ≔ 5) 4 8 18
      ≡ gives (row 0 15 2 ∷ row 1 17 2 ∷ row 3 21 4 ∷ row 4 10 1 ∷ row 5 11 1 ∷ []) 18
  pub inverted : crosses (three ▹ Slot 3 2 from_word ≔ 8) 5 8 18 ≡ gives (row 0 15 2 ∷ row 1 17 2 ∷ row 4 10 1 ∷ row 5 11 1 ∷ []) 18
  -- "Latest is the greatest from", whatever the place and the end
  pub greatest_from : crosses (three ▹ Slot 3 0 from_word ≔ 7 ▹ Slot 3 0 to_word ≔ 8) 3 8 18
      ≡ gives (row 0 15 2 ∷ row 1 17 2 ∷ row 3 20 3 ∷ row 4 10 1 ∷ row 5 11 1 ∷ []) 18
  pub overlapping : crosses (three ▹ Slot 3 0 to_word ≔ OPEN) 3 8 18
      ≡ gives (row 0 15 2 ∷ row 1 17 2 ∷ row 3 22 5 ∷ row 4 10 1 ∷ row 5 11 1 ∷ []) 18
  -- "then the greatest place"
  pub greatest_place : crosses (three ▹ Slot 3 0 from_word ≔ 5 ▹ Slot 3 0 to_word ≔ 6) 3 8 18
      ≡ gives (row 0 15 2 ∷ row 1 17 2 ∷ row 3 22 5 ∷ row 4 10 1 ∷ row 5 11 1 ∷ []) 18
  -- of two blocks it is in the later one, whatever the slots
  pub of_two_blocks : crosses (three ▹ Slot 1 3 tag_word ≔ 0 ▹ Slot 1 3 from_word ≔ 2 ▹ Slot 1 3 to_word ≔ OPEN) 2 9 18
      ≡ gives (row 0 15 2 ∷ row 1 17 2 ∷ row 2 23 9 ∷ row 3 22 5 ∷ row 4 10 1 ∷ row 5 11 1 ∷ []) 18

-- ---- 12: "a record in them that stood in the window and has a tag of D or more"
pub record UnknownEdges : Type 0 where
  pub tag_6 : crosses (three ▹ Slot 3 2 tag_word ≔ 6) 5 8 18 ≡ zeroes 18
  pub tag_5 : crosses (three ▹ Slot 3 2 tag_word ≔ 5) 5 8 18 ≡ gives (row 0 15 2 ∷ row 1 17 2 ∷ row 4 10 1 ∷ row 5 22 5 ∷ []) 18
  -- the whole buffer is zero
  pub longer : crosses (three ▹ Slot 3 2 tag_word ≔ OPEN) 5 8 20 ≡ zeroes 20
  -- not of one that did not stand in it, by its end, its beginning, or never
  pub ended : crosses (three ▹ Slot 3 2 tag_word ≔ 6) 6 8 18 ≡ gives (row 0 15 2 ∷ row 1 17 2 ∷ row 4 10 1 ∷ row 5 11 1 ∷ []) 18
  pub not_yet : crosses (three ▹ Slot 3 2 tag_word ≔ 6) 4 4 18
      ≡ gives (row 0 15 2 ∷ row 1 17 2 ∷ row 3 21 4 ∷ row 4 10 1 ∷ row 5 11 1 ∷ []) 18
  pub never : crosses (three ▹ Slot 2 3 tag_word ≔ 6) 1 2 18
      ≡ gives (row 0 15 2 ∷ row 1 17 2 ∷ row 2 16 2 ∷ row 3 19 2 ∷ row 4 10 1 ∷ row 5 11 1 ∷ []) 18
  -- nor in a block that is not read
  pub not_read : crosses (three ▹ Slot 3 2 tag_word ≔ 6 ▹ Field 3 closed_word ≔ 5) 5 8 18
      ≡ gives (row 0 15 2 ∷ row 1 17 2 ∷ row 4 10 1 ∷ row 5 11 1 ∷ []) 18
