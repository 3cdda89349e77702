-- WHAT A CHANGE CALL ANSWERS AND LEAVES: the reply of the definition (calls.specs.Step), refused calls too.
use Rattle.std.specs.Prelude.{◌≡◌, List, ℕ, Option, is_some, Result, Ok, Err}
use Rattle.layout.specs.declared.head.Head.{Head}
use Rattle.layout.specs.declared.refusal.Refusal.{Refusal}
use Rattle.layout.specs.RefusalNumbers.{number}
use Rattle.layout.specs.Head.{head_of}
use Rattle.calls.specs.Calls.{Answer, Done, Refused, Reply}
use Rattle.calls.specs.Refusals.{clear_tests}
use Rattle.calls.specs.Step.{change, words_read}
use Rattle.placing.specs.Steps.{clearing_program}
use Rattle.decisions.specs.Verdict.{more}

-- the next head, or the refusal by its number
abbrev pub answer_of : Result Head Refusal → Answer
answer_of (Ok h) = Done h
answer_of (Err e) = Refused (number e)

pub record Replied (r : Reply) (result : Result Head Refusal) (words : List ℕ) : Type 0 where
  pub answer : answer_of result ≡ r.answer
  pub store : words ≡ r.store

-- a clear or, with a reading, a new reading: `clear` and `update` of calls.specs.Step as one
unfoldable pub clearing : List ℕ → ℕ → ℕ → Option ℕ → Reply
clearing ws s tag reading =
    let h = head_of ws in
    change (clear_tests (more (is_some reading)) ws (words_read ws) s tag) ws (clearing_program h.settings h.cursor s tag reading)
