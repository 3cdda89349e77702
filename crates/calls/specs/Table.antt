-- THE PROVED TABLE (document 01, "Proved table (marked P) and edges", with the since and the sizes of document 02, request 1): P1 to P12, the printed
-- case, more of since, and slips to shut out, as one statement about the definitions. (Windows over the printed case: edges/specs/WindowTable.antt.)
use Rattle.std.specs.Prelude.{◌≡◌, true, List, [], ◌∷◌, ◌++◌, ℕ, ◌+◌, ◌*◌, ◌-◌, ◌≤◌, length, replicate}
use Rattle.layout.specs.declared.settings.Settings.{Settings}
use Rattle.layout.specs.declared.address.Address.TheVariants.{Field}
use Rattle.layout.specs.Sizes.{OPEN}
use Rattle.layout.specs.Fields.{closed_word}
use Rattle.layout.specs.Settings.{settings_of}
use Rattle.layout.specs.Head.{head_of, placed}
use Rattle.calls.specs.Calls.{Call, Start, Set, Clear, Update, Ask, LookBack, Row, Answer, Shown, Refused, accepted}
use Rattle.calls.specs.Step.{step, words_read}
use Rattle.calls.specs.History.{words_after, trace, opening, account}

-- the printed settings b = 4, q = 2, B = 8, D = 16, on a store of 4,624 words
abbrev pub settings : Settings
settings = settings_of 4 2 8 16

unfoldable pub fresh : List ℕ
fresh = (step (replicate 4624 9) (Start settings)).store

-- the printed changes up to second 7, and the last
abbrev pub up_to7 : List Call
up_to7 =
    Set 1 1 25 ∷ Set 2 2 4294967271 ∷ Set 3 3 5 ∷ Set 4 4 140 ∷ Set 5 5 0 ∷ Clear 6 2 ∷ Clear 7 3 ∷ []

abbrev pub printed : List Call
printed = up_to7 ++ (Clear 8 1 ∷ [])

unfoldable pub after7 : List ℕ
after7 = words_after fresh up_to7

unfoldable pub after8 : List ℕ
after8 = words_after after7 (Clear 8 1 ∷ [])

-- and on: tags 6 and 7 fill block 2, tag 8 opens block 3; with the clear at 13 only tag 4 stands in block 2, which closes
-- and copies it to block 3
abbrev pub up_to13 : List Call
up_to13 = Set 9 6 1 ∷ Set 9 7 2 ∷ Set 10 8 3 ∷ Clear 11 5 ∷ Clear 12 6 ∷ Clear 13 7 ∷ []

unfoldable pub after13 : List ℕ
after13 = words_after after8 up_to13

-- what a look-back with buffers of 48 and 8 words answers
abbrev pub seen_at : List ℕ → ℕ → Answer
seen_at ws t = (step ws (Ask (LookBack t (replicate 48 0) (replicate 8 0)))).answer

-- tag, reading, since
abbrev pub row : ℕ → ℕ → ℕ → Row
row tag reading since = record { tag = tag; payload = record { reading = reading; since = since } }

-- rows, list, the page passed on each level, pages read
abbrev pub view : List Row → List ℕ → List ℕ → ℕ → Answer
view rows list pages read = Shown (record { rows = rows; list = list; pages = pages; counts = record { rows = length rows; pages = read; blocks = length list } })

-- the only page of the lowest level
abbrev pub one_page : List ℕ
one_page = 0 ∷ OPEN ∷ OPEN ∷ []

abbrev pub no_page : List ℕ
no_page = OPEN ∷ OPEN ∷ OPEN ∷ []

-- "the second of its last set or new reading, carried along by every copy"
pub record Since : Type 0 where
  -- tag 1 is set at 1 and has a new reading at 3, another one or the same
  pub before : seen_at (words_after fresh (Set 1 1 25 ∷ Update 3 1 30 ∷ [])) 2 ≡ view (row 1 25 1 ∷ []) (1 ∷ []) one_page 1
  pub new_reading : seen_at (words_after fresh (Set 1 1 25 ∷ Update 3 1 30 ∷ [])) 3 ≡ view (row 1 30 3 ∷ []) (1 ∷ []) one_page 1
  pub same_reading : seen_at (words_after fresh (Set 1 1 25 ∷ Update 3 1 25 ∷ [])) 3 ≡ view (row 1 25 3 ∷ []) (1 ∷ []) one_page 1
  -- the lent words of a look-back, full of 77 before: three a row, tag, reading, since; words after the rows and after the list keep their contents
  pub row_words_lem : (step (words_after fresh (Set 1 2 25 ∷ Set 4 7 30 ∷ [])) (Ask (LookBack 4 (replicate 48 77) (replicate 8 77)))).lent
      ≡ (2 ∷ 25 ∷ 1 ∷ 7 ∷ 30 ∷ 4 ∷ replicate 42 77) ∷ (1 ∷ replicate 7 77) ∷ []
  -- "however often the record was copied": at 13 tag 4 has been copied twice
  pub copied_twice : seen_at after13 13 ≡ view (row 8 3 10 ∷ row 4 140 4 ∷ []) (3 ∷ 2 ∷ []) one_page 1

pub record Slips : Type 0 where
  -- the acceptor is not judged on a clear, though none stands in it
  pub acceptor : words_read (words_after fresh (Set 1 1 25 ∷ Clear 2 1 ∷ [])) (Field 1 closed_word) ≡ OPEN
  -- of the blocks opened in one second the last starts the path
  pub first : seen_at (words_after fresh (Set 1 1 25 ∷ Set 1 2 5 ∷ Set 1 3 5 ∷ Set 1 4 5 ∷ Set 1 5 0 ∷ [])) 1
      ≡ view (row 5 0 1 ∷ row 1 25 1 ∷ row 2 5 1 ∷ row 3 5 1 ∷ row 4 5 1 ∷ []) (2 ∷ 1 ∷ []) one_page 1

pub record Table : Type 0 where
  -- the printed case: rows in order with their readings and since when, blocks listed, refusal 7; and P1: at 7, list 2, 1
  pub p1 : seen_at after8 7 ≡ view (row 5 0 5 ∷ row 1 25 1 ∷ row 4 140 4 ∷ []) (2 ∷ 1 ∷ []) one_page 1
  -- P2 at 8: rows 5, 4; list 2, 1. Tag 4 stands since 4, though its record was copied at 8
  pub p2 : seen_at after8 8 ≡ view (row 5 0 5 ∷ row 4 140 4 ∷ []) (2 ∷ 1 ∷ []) one_page 1
  -- P3 at 3: list 1
  pub p3 : seen_at after8 3 ≡ view (row 1 25 1 ∷ row 2 4294967271 2 ∷ row 3 5 3 ∷ []) (1 ∷ []) one_page 1
  pub printed_9 : seen_at after8 9 ≡ Refused 7
  -- P4 at 0: no rows, 0 blocks
  pub p4 : seen_at after8 0 ≡ view [] [] one_page 1
  -- P5 after 8: 6 records, 6 × 3 ≤ 5 × 4
  pub p5 : placed (head_of after8) ≡ 6
  pub p5_sets : (account (opening settings) (trace fresh printed)).sets ≡ 5
  pub p5_bound : placed (head_of after8) * (4 - 2 + 1) ≤ 4 * (account (opening settings) (trace fresh printed)).sets
  -- P6 block 1 closes at 8, not at 7
  pub p6_not : words_read after7 (Field 1 closed_word) ≡ OPEN
  pub p6 : words_read after8 (Field 1 closed_word) ≡ 8
  -- P7 fresh register at 0: no rows, 0 pages
  pub p7 : seen_at fresh 0 ≡ view [] [] no_page 0
  -- P8 q = 2, b = 4 passes; b = 3 is refusal 1
  pub p8 : accepted (step (replicate 4624 9) (Start settings)).answer ≡ true
  pub p8_not : (ws : List ℕ) → (step ws (Start (settings_of 3 2 8 16))).answer ≡ Refused 1
  -- P9 a set of tag 6 at 8, the clock, passes
  pub p9 : (reading : ℕ) → accepted (step after8 (Set 8 6 reading)).answer ≡ true
  -- P10 at 7: 6
  pub p10 : (reading : ℕ) → (step after8 (Set 7 6 reading)).answer ≡ Refused 6
  -- P11 a set at 8 of tag 15 passes, of 16 gives 8
  pub p11 : (reading : ℕ) → accepted (step after8 (Set 8 15 reading)).answer ≡ true
  pub p11_not : (reading : ℕ) → (step after8 (Set 8 16 reading)).answer ≡ Refused 8
  -- P12 this layout: 4,624 words pass, 4,623 give 4 (4,592 and 4,591 in document 01; request 1: "In P12 the store's length becomes 4,624.")
  pub p12 : (ws : List ℕ) → length ws ≡ 4624 → accepted (step ws (Start settings)).answer ≡ true
  pub p12_not : (ws : List ℕ) → length ws ≡ 4623 → (step ws (Start settings)).answer ≡ Refused 4
  -- since, beyond P1 to P3
  pub since : Since
  -- slips to shut out, beyond those that P1 to P12 notice
  pub slips : Slips
