-- From a verdict to the reply: a call turned away leaves all words, a call that goes on leaves those of its program. Where it goes on, its program may run.
use Rattle.std.specs.Prelude.{◌≡◌, refl, List, [], ℕ, Option, Some, None, is_some, Ok, Err}
use Rattle.std.proofs.Common.{sym, ◌∙◌, subst, arith, ne_eqb}
use Rattle.std.proofs.Math.Path.{ap, ap₂}
use Rattle.layout.specs.declared.settings.Settings.{Settings}
use Rattle.layout.specs.declared.head.Cursor.{Cursor}
use Rattle.layout.specs.declared.head.Head.{Head}
use Rattle.layout.specs.declared.refusal.Refusal.{Refusal}
use Rattle.layout.specs.RefusalNumbers.{number}
use Rattle.layout.specs.RefusalLaws.{number_some}
use Rattle.layout.specs.Program.{Prog, run}
use Rattle.layout.specs.Head.{onward, head_of, with_head, cleared, fresh_head}
use Rattle.layout.specs.OnWords.{over}
use Rattle.layout.specs.Moved.{Moved, next_head}
use Rattle.layout.specs.Able.{Able}
use Rattle.calls.specs.Calls as calls
use Rattle.calls.specs.Placing.{set_program, advance_program}
use Rattle.calls.specs.Refusals.{Test, refusal, start_tests, time_tests, set_tests, clear_tests}
use Rattle.calls.specs.Step.{reply, change, start, words_read}
use Rattle.placing.specs.Steps.{Listed, clearing_program}
use Rattle.safety.specs.CallSafe.{advance_over, set_over, clear_over, update_over, held_able}
use Rattle.queries.specs.Readable.{words_of}
use Rattle.decisions.specs.Verdict.{Verdict, more}
use Rattle.decisions.specs.VerdictLaws.{gone, refused}
use Rattle.decisions.specs.ReadyLaws.{go_time, go_set, go_clear}
use Rattle.changes.specs.Replied.{Replied}

-- ---- a reply by its table
module _ (l : List Test) (ws : List ℕ) (a : calls.Answer) (after : List ℕ) where
  reply_away : {e : Refusal} → refusal l ≡ number e → Replied (reply l ws a after) (Err e) ws
  reply_away {e} q =
      let some = number_some e in
      rw (q, ne_eqb (number e) 0 (λ z. omega arith)) (record { answer = refl; store = refl })

  reply_done : {h : Head} {us : List ℕ} → refusal l ≡ 0 → calls.Done h ≡ a → us ≡ after → Replied (reply l ws a after) (Ok h) us
  reply_done e f w = rw e (record { answer = f; store = w })

-- ---- a change or clock move
pub turned_away : {l : List Test} {ws : List ℕ} (p : Prog Cursor) {e : Refusal} → Verdict l (head_of ws) (Err e) → Replied (change l ws p) (Err e) ws
turned_away {l} {ws} p v =
    let left = run (over (head_of ws).settings) p ws in
    reply_away l ws (calls.Done (onward (head_of ws) left.0)) left.1 (refused v)

pub carried_out : {l : List Test} {ws : List ℕ} (p : Head → Prog Cursor) {h r : Head} {us : List ℕ} → Verdict l (head_of ws) (Ok h)
    → Moved h (p h) ws r us → Replied (change l ws (p (head_of ws))) (Ok r) us
carried_out {l} {ws} p {h} {r} {us} v m =
    let g = gone v in
    let n = subst (λ (x : Head). Moved x (p x) ws r us) g.1 m in
    let left = run (over (head_of ws).settings) (p (head_of ws)) ws in
    reply_done l ws (calls.Done (onward (head_of ws) left.0)) left.1 g.0 (ap calls.Done (next_head n)) (sym n.ran.words)

-- ---- where it goes on, its program may run, whatever second and reading it is handed
pub advance_able : {ws : List ℕ} (s now : ℕ) {h : Head} → Verdict (time_tests ws s []) (head_of ws) (Ok h)
    → Able h.settings (advance_program h.settings h.cursor now) ws
advance_able {ws} s now {h} v = let t = go_time v in held_able t.ready.held (advance_over t.ready.sound (words_of h ws) now)

pub set_able : {ws : List ℕ} (s now tag reading : ℕ) {h : Head} → Verdict (set_tests ws (words_read ws) s tag) (head_of ws) (Ok h)
    → Able h.settings (set_program h.settings h.cursor now tag reading) ws
set_able {ws} s now tag reading {h} v =
    let t = go_set tag v in
    held_able t.time.ready.held (set_over t.time.ready.sound (words_of h ws) now tag t.has_tag reading t.sound t.room)

module _ {ws : List ℕ} (s tag : ℕ) where
  -- a clear or a new reading; its tag has a place.
  pub clearing_able : (reading : Option ℕ) {h : Head} → Verdict (clear_tests (more (is_some reading)) ws (words_read ws) s tag) (head_of ws) (Ok h)
      → Able h.settings (clearing_program h.settings h.cursor s tag reading) ws
  clearing_able None {h} v =
      let t = go_clear 0 tag v in
      held_able t.time.ready.held (clear_over t.time.ready.sound (words_of h ws) s tag t.has_tag t.standing t.sound t.room)
  clearing_able (Some reading) {h} v =
      let t = go_clear 1 tag v in
      held_able t.time.ready.held
      (update_over t.time.ready.sound (words_of h ws) s tag t.has_tag t.standing reading t.sound t.room)

  pub clearing_listed : (n : ℕ) {h : Head} → Verdict (clear_tests n ws (words_read ws) s tag) (head_of ws) (Ok h) → Listed h.settings ws tag
  clearing_listed n {h} v = let t = go_clear n tag v in let d = t.standing in record { some = omega (arith, d) }

-- ---- a start
module _ (ws : List ℕ) {s : Settings} where
  pub start_away : {e : Refusal} → Verdict (start_tests s ws) s (Err e) → Replied (start ws s) (Err e) ws
  unfolding start
  start_away v = reply_away (start_tests s ws) ws (calls.Done (fresh_head s)) (with_head (fresh_head s) (cleared s ws)) (refused v)

  pub start_done : {s' : Settings} {h : Head} {us : List ℕ} → Verdict (start_tests s ws) s (Ok s') → h ≡ fresh_head s'
      → us ≡ with_head h (cleared s' ws) → Replied (start ws s) (Ok h) us
  unfolding start
  start_done {s'} {h} {us} v f w =
      let g = gone v in
      let i : h ≡ fresh_head s = f ∙ ap fresh_head g.1 in
      reply_done (start_tests s ws) ws (calls.Done (fresh_head s)) (with_head (fresh_head s) (cleared s ws)) g.0
      (ap calls.Done i)
      (w ∙ ap₂ (λ (x : Head) (y : Settings). with_head x (cleared y ws)) i g.1)
