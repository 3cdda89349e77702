-- ANY CALL IN CODE is one step of a history: which call of the definitions a value is, and what its answer and all lent words are after it.
use Rattle.std.specs.Prelude.{◌≡◌, List, [], ◌∷◌, ℕ, Result, Ok, Err}
use Rattle.layout.specs.declared.head.Head.{Head}
use Rattle.layout.specs.declared.refusal.Refusal.{Refusal}
use Rattle.layout.specs.RefusalNumbers.{number}
use Rattle.calls.specs.Calls as calls
use Rattle.calls.specs.Step.{step}
use Rattle.calls.specs.Calls.{View}
use Rattle.timeslice.specs.declared.Slice.{Slice}
use Rattle.timeslice.specs.Answer.{slice_of}
use Rattle.applying.specs.declared.call.Call.{Call}
use Rattle.applying.specs.declared.call.Call.TheVariants.{Start, Set, Clear, Update, Advance, LookBack}
use Rattle.applying.specs.declared.call.Answer.{Answer}
use Rattle.applying.specs.declared.call.Answer.TheVariants.{Done, Shown}

-- the call of the definitions, a look-back with the buffers that it is lent
abbrev pub call_of : Call → List ℕ → List ℕ → calls.Call
call_of (Start asked) rows list = calls.Start asked
call_of (Set s tag reading) rows list = calls.Set s tag reading
call_of (Clear s tag) rows list = calls.Clear s tag
call_of (Update s tag reading) rows list = calls.Update s tag reading
call_of (Advance s) rows list = calls.Advance s
call_of (LookBack t) rows list = calls.Ask (calls.LookBack t rows list)

-- the next head, a view as a slice, or the refusal by its number (none of these calls answers numbers)
pub data Says : calls.Answer → Result Answer Refusal → Type 0 where
  head : {h : Head} → Says (calls.Done h) (Ok (Done h))
  view : {v : View} {s : Slice} → s ≡ slice_of v → Says (calls.Shown v) (Ok (Shown s))
  turned : {n : ℕ} {e : Refusal} → number e ≡ n → Says (calls.Refused n) (Err e)

-- the two buffers after a call: as a look-back's reply has them; no other call touches them
abbrev pub buffers_after : Call → List ℕ → List ℕ → List (List ℕ) → List (List ℕ)
buffers_after (Start asked) rows list replied = rows ∷ list ∷ []
buffers_after (Set s tag reading) rows list replied = rows ∷ list ∷ []
buffers_after (Clear s tag) rows list replied = rows ∷ list ∷ []
buffers_after (Update s tag reading) rows list replied = rows ∷ list ∷ []
buffers_after (Advance s) rows list replied = rows ∷ list ∷ []
buffers_after (LookBack t) rows list replied = replied

pub record Applied (ws : List ℕ) (call : Call) (rows list : List ℕ) (r : Result Answer Refusal) (ws' rows' list' : List ℕ) : Type 0 where
  pub answer : Says (step ws (call_of call rows list)).answer r
  pub store : ws' ≡ (step ws (call_of call rows list)).store
  pub buffers : rows' ∷ list' ∷ [] ≡ buffers_after call rows list (step ws (call_of call rows list)).lent
