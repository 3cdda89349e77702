-- A call in code is a call's step.
use Rattle.std.specs.Prelude.{◌≡◌, refl, List, ℕ, Result, Ok, Err}
use Rattle.std.proofs.Common.{ap}
use Rattle.layout.specs.declared.refusal.Refusal.{Refusal}
use Rattle.layout.specs.RefusalNumbers.{number}
use Rattle.calls.specs.Calls as calls
use Rattle.timeslice.specs.declared.Slice as timeslice
use Rattle.applying.specs.declared.call.Call.{Call}
use Rattle.applying.specs.declared.call.Answer.{Answer}
use Rattle.applying.specs.declared.call.Answer.TheVariants.{Done, Shown}
use Rattle.applying.specs.Applied.{Says, head, view, turned, Applied}
use Rattle.console_run.specs.declared.turn.Stage.{Stage}
use Rattle.console_run.specs.declared.turn.Said.TheVariants as said
use Rattle.console_run.specs.declared.turn.Turn.{Turn}
use Rattle.console_run.specs.Console.{Lent, Slice, No, lent, tells, does, says, answered, called}

-- `answered`, of what a call answers in code
abbrev pub turn_of : Stage → Stage → ℕ → Result Answer Refusal → Turn
turn_of done refused time (Ok (Done h)) = says done said.Nothing
turn_of done refused time (Ok (Shown s)) = says done (said.Slice time s.counts.rows s.counts.blocks)
turn_of done refused time (Err e) = says refused (said.No time (number e))

turn_says : (done refused : Stage) (time : ℕ) (words : Lent) {a : calls.Answer} {r : Result Answer Refusal} → Says a r
    → does (turn_of done refused time r) words ≡ answered done refused time a words
turn_says done refused time words head = refl
turn_says done refused time words (view e) = ap (λ (s : timeslice.Slice). tells done (Slice time s.counts.rows s.counts.blocks) words) e
turn_says done refused time words (turned q) = ap (λ (n : ℕ). tells refused (No time n) words) q

pub called_is : {store rows list store' rows' list' : List ℕ} {call : Call} {a : Result Answer Refusal} (done refused : Stage) (time : ℕ) {t : Turn}
    → Applied store call rows list a store' rows' list' → t ≡ turn_of done refused time a
    → does t (lent store' rows' list') ≡ called done refused time call (lent store rows list)
unfolding called
called_is {store' = store'} {rows' = rows'} {list' = list'} done refused time p e =
    rw (e, turn_says done refused time (lent store' rows' list') p.answer, p.store, ← p.buffers)
