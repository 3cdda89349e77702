-- THE PROVED TABLE OF WINDOWS (document 02, request 2) over document 01's printed case, beside the proved table of calls: closed computations.
use Rattle.std.specs.Prelude.{◌≡◌, [], ◌∷◌, replicate}
use Rattle.calls.specs.Calls.{Set, Clear, Update, Numbers}
use Rattle.calls.specs.History.{words_after}
use Rattle.calls.specs.Table.{row, after8}
use Rattle.calls.specs.Table as table
use Rattle.edges.specs.EdgesWindow.{crosses, gives, turns}

pub record WindowTable : Type 0 where
  -- tags 1 to 5 stand from 1 to 7, 2 to 5, 3 to 6, 4 on and 5 on
  pub from_1_to_3 : crosses after8 1 3 48 ≡ gives (row 1 25 1 ∷ row 2 4294967271 2 ∷ row 3 5 3 ∷ []) 48
  pub from_5_to_7 : crosses after8 5 7 48 ≡ gives (row 1 25 1 ∷ row 2 4294967271 2 ∷ row 3 5 3 ∷ row 4 140 4 ∷ row 5 0 5 ∷ []) 48
  -- "both included": tag 2 was cleared at 6, tag 3 at 7
  pub from_6_to_6 : crosses after8 6 6 48 ≡ gives (row 1 25 1 ∷ row 3 5 3 ∷ row 4 140 4 ∷ row 5 0 5 ∷ []) 48
  -- tag 4 was copied at 8 and stands since 4
  pub from_7_to_8 : crosses after8 7 8 48 ≡ gives (row 1 25 1 ∷ row 4 140 4 ∷ row 5 0 5 ∷ []) 48
  pub from_0_to_0 : crosses after8 0 0 48 ≡ gives [] 48
  pub from_0_to_8 : crosses after8 0 8 48 ≡ gives (row 1 25 1 ∷ row 2 4294967271 2 ∷ row 3 5 3 ∷ row 4 140 4 ∷ row 5 0 5 ∷ []) 48
  -- the words that are lent: three a row, tag, reading, since; the answer is the number of rows
  pub words : crosses after8 8 8 48 ≡ record { answer = Numbers (2 ∷ []); lent = (4 ∷ 140 ∷ 4 ∷ 5 ∷ 0 ∷ 5 ∷ replicate 42 77) ∷ [] }
  -- "t2 before t1"; "refusal 7 looks at t2"; three words a row
  pub reversed : crosses after8 3 2 48 ≡ turns 14 48
  pub late : crosses after8 1 9 48 ≡ turns 7 48
  pub short : crosses after8 1 3 47 ≡ turns 11 47

-- "with the reading of its latest standing there"
pub record LatestTable : Type 0 where
  -- tag 1 is set at 1 and has a new reading at 3
  pub before : crosses (words_after table.fresh (Set 1 1 25 ∷ Update 3 1 30 ∷ [])) 1 2 48 ≡ gives (row 1 25 1 ∷ []) 48
  pub new_reading : crosses (words_after table.fresh (Set 1 1 25 ∷ Update 3 1 30 ∷ [])) 1 3 48 ≡ gives (row 1 30 3 ∷ []) 48
  -- set at 1, cleared at 2, set again at 4
  pub gone : crosses (words_after table.fresh (Set 1 1 25 ∷ Clear 2 1 ∷ Set 4 1 7 ∷ [])) 2 3 48 ≡ gives [] 48
  pub again : crosses (words_after table.fresh (Set 1 1 25 ∷ Clear 2 1 ∷ Set 4 1 7 ∷ [])) 1 4 48 ≡ gives (row 1 7 4 ∷ []) 48
  -- one set and cleared within a second never shows
  pub brief : crosses (words_after table.fresh (Set 1 1 25 ∷ Clear 1 1 ∷ [])) 0 1 48 ≡ gives [] 48
