-- WHAT IS CALLED AND WHAT COMES BACK (document 01, "Conditions and seconds" and "The look-back").
use Rattle.std.specs.Prelude.{Bool, true, false, List, [], ◌∷◌, ℕ}
use Rattle.layout.specs.declared.settings.Settings.{Settings}
use Rattle.layout.specs.declared.head.Head.{Head}
use Rattle.layout.specs.declared.payload.Payload.{Payload}

-- What may be asked of a store, with the buffers that each question is lent.
pub data Query : Type 0 where
  -- what stood at a second; for its rows, and for the reading list
  LookBack : ℕ → List ℕ → List ℕ → Query
  -- what stood at some second from a first to a last, both included; for its rows
  Window : ℕ → ℕ → List ℕ → Query

abbrev pub buffers_of : Query → List (List ℕ)
buffers_of (LookBack t rows list) = rows ∷ list ∷ []
buffers_of (Window first last rows) = rows ∷ []

-- The calls, with any arguments: a start, four that may change the store, and a question.
pub data Call : Type 0 where
  -- b, q, B and D
  Start : Settings → Call
  -- second, tag, reading
  Set : ℕ → ℕ → ℕ → Call
  -- second, tag
  Clear : ℕ → ℕ → Call
  -- second, tag, new reading
  Update : ℕ → ℕ → ℕ → Call
  -- second
  Advance : ℕ → Call
  Ask : Query → Call

-- a condition that stands: its tag, and what its record tells
pub record Row : Type 0 where
  pub tag : ℕ
  pub payload : Payload

-- the three numbers
pub record Counts : Type 0 where
  pub rows : ℕ
  pub pages : ℕ
  pub blocks : ℕ

-- what an answered look-back gives: rows, reading list, for each of the three levels the page passed (OPEN if none), and the three numbers
pub record View : Type 0 where
  pub rows : List Row
  pub list : List ℕ
  pub pages : List ℕ
  pub counts : Counts

-- the next head, for a start, a change or a clock move; a view, for a look-back; the numbers that any other query answers, in order (a window's rows are
-- counted); or a refusal by its number
pub data Answer : Type 0 where
  Done : Head → Answer
  Shown : View → Answer
  Numbers : List ℕ → Answer
  Refused : ℕ → Answer

abbrev pub accepted : Answer → Bool
accepted (Done h) = true
accepted (Shown v) = true
accepted (Numbers l) = true
accepted (Refused n) = false

-- what a query answers, and its buffers after it
pub record QueryReply : Type 0 where
  pub answer : Answer
  pub lent : List (List ℕ)

-- the answer with all lent words as the call leaves them: the store, and a query's buffers (none of another call)
pub record Reply : Type 0 where
  pub answer : Answer
  pub store : List ℕ
  pub lent : List (List ℕ)
