-- EVERY STEP KEEPS THE WORDS HONEST: a refused call leaves them, an accepted one leaves words that hold what log and book then say, and refusal 12
-- comes to no call.
use Rattle.std.specs.Prelude.{◌≡◌, refl, ◌≢◌, cond, List, ℕ, ◌+◌, ◌≤◌, ◌<◌, length}
use Rattle.std.proofs.Math.Path.{sym, ap}
use Rattle.std.proofs.Common.{◌∙◌, subst, arith}
use Rattle.std.proofs.Math.Bool.{false}
use borrow.Author.Tests.{eqb-true, eqb-false, ltb-false, leb-false, not-false}
use Rattle.base.specs.Sums.{All, nil, cons}
use Rattle.layout.specs.declared.settings.Settings.{Settings}
use Rattle.layout.specs.declared.head.Cursor.{Cursor}
use Rattle.layout.specs.declared.head.Head.{Head}
use Rattle.layout.specs.declared.address.Address.TheVariants.{Dir}
use Rattle.layout.specs.Sizes.{OPEN, head_len, layout_len}
use Rattle.layout.specs.Address.{Valid}
use Rattle.layout.specs.Interp.{Same}
use Rattle.layout.specs.Memory.{Memory}
use Rattle.layout.specs.SettingsLaws.{limits_within}
use Rattle.layout.specs.Head.{head_of, with_head, cleared, fresh_head}
use Rattle.layout.specs.Program.{Prog, run, run_on}
use Rattle.layout.specs.OnWords.{over}
use Rattle.layout.specs.OverLaws.{over_safe}
use Rattle.calls.specs.Calls.{Call, Start, Set, Clear, Update, Advance, Ask, Answer, Done, Shown, Numbers, Refused, accepted}
use Rattle.calls.specs.Placing.{set_program, clear_program, update_program, advance_program}
use Rattle.calls.specs.Refusals.{Test, time_tests, set_own, clear_own, tag_block, copies, blocks_out}
use Rattle.calls.specs.Step.{step, tests_of, change, start, set, clear, update, advance, words_read}
use Rattle.calls.specs.Book.{Book}
use Rattle.calls.specs.Log.{Log}
use Rattle.calls.specs.History.{Account, opening, enters}
use Rattle.calls.specs.Claims.{EveryCall}
use Rattle.safety.specs.Goes.{Goes}
use Rattle.safety.specs.CallSafe.{Next, next_head, advance_goes, set_goes, clear_call_goes, update_goes}
use Rattle.theory.specs.Timeline.{Timeline, told_alike, none}
use Rattle.theory.specs.State.{free as not_there, state_as}
use Rattle.theory.specs.LogLaws.{Once, tellings, once_empty, once_set, once_clear, once_update, tellings_set, tellings_clear, tellings_update}
use Rattle.theory.specs.SoFar.{Timed, timed_none, timed_later, timed_more}
use Rattle.theory.specs.Rest.{Rest, rest_fresh, head_with, booked_fresh, After, after_advance, after_set, after-clear, after_update}
use Rattle.theory.specs.Fresh.{fresh_memory, started}
use Rattle.theory.specs.Sound.{set_sound, clear_sound, same_copies}
use Rattle.theory.specs.Counting.{Counted, counted_empty, counted_set, counted_clear, counted_update}
use Rattle.theory.specs.Stored.{stored_run, HeadMoved, set_head, clear_head, update_head, advance_head}
use Rattle.theory.specs.TestLaws.{refusal_none}
use Rattle.theory.specs.AnyCall.{every_call}
use Rattle.theory.specs.Honest.{Honest, head_is, word_is, words_same, head_sound}

-- ---- a log that says the same of every second
rest_alike : {s : Settings} {l l' : Timeline} {c : Cursor} {f : Memory} → ((t g : ℕ) → t < OPEN → l t g ≡ l' t g) → Rest s l c f → Rest s l' c f
rest_alike h i =
    let r = i.full in
    let st = r.state in
    let told = state_as st (omega arith) st.past (told_alike h st.told) st.calm in
    record {
      full = record { state = told; useful = r.useful; within = r.within; fits = r.fits };
      limit = i.limit;
      begun = i.begun;
      empty = i.empty;
    }

module _ {ws : List ℕ} {a : Account} (i : Honest ws a) where
  abbrev s : Settings
  s = a.settings

  abbrev c : Cursor
  c = i.cursor

  abbrev f : Memory
  f = i.memory

  -- what an accepted change leaves, where clock, log and book follow
  ran : {now : ℕ} {book : Book} {l : Log} {sets : ℕ} {log : Timeline} {tests : List Test} (p : Settings → Cursor → Prog Cursor)
      → let z = run_on (p s c) f in All (λ y. y.applies ≡ false) tests → Goes s (p s c) f (λ d g. Next s now d) → HeadMoved z.0 f z.1
      → After s now log book z.0 z.1 → ((t g : ℕ) → t < OPEN → log t g ≡ tellings l t g) → Once l → Timed now l → Counted sets book
      → Honest (change tests ws (p (head_of ws).settings (head_of ws).cursor)).store (record { settings = s; clock = now; book = book; log = l; sets = sets })
  ran {now} {book} {l} {sets} {tests = tests} p free goes moved made alike once timed counted =
      let next = goes.leaves in
      let rest = rest_alike alike (made.rest next) in
      let after : (change tests ws (p (head_of ws).settings (head_of ws).cursor)).store ≡ (run (over s) (p s c) ws).1 =
      rw (refusal_none free) (ap (λ (h : Head). (run (over h.settings) (p h.settings h.cursor) ws).1) (head_is i)) in
      subst (λ (us : List ℕ). Honest us (record { settings = s; clock = now; book = book; log = l; sets = sets })) (sym after) (record {
        cursor = (run_on (p s c) f).0;
        memory = (run_on (p s c) f).1;
        stored = (stored_run (p s c) i.stored (over_safe s (p s c) f goes.safe) moved
            (next_head i.rest.full.within (omega (arith, next.clock, rest.full.state.past)) next)).store;
        clock = next.clock;
        rest = rest;
        once = once;
        timed = timed;
        booked = made.booked;
        counted = counted;
      })

  -- ---- what the tests that do not apply say
  abbrev Passed : Call → Type 0
  Passed x = All (λ y. y.applies ≡ false) (tests_of ws x)

  tags_are : (head_of ws).settings.tags ≡ s.tags
  tags_are = ap (λ (h : Head). h.settings.tags) (head_is i)

  -- the memory's own words
  itself : Same f (Valid s) f
  itself = record { at = λ x v. refl }

  -- a change at now
  record Timely (now : ℕ) : Type 0 where
    later : c.clock ≤ now
    since : a.clock ≤ now
    ends : now < OPEN

  timely : (now : ℕ) {l : List Test} → All (λ y. y.applies ≡ false) (time_tests ws now l) → Timely now × All (λ y. y.applies ≡ false) l
  timely now (cons x₂ (cons x₃ (cons x₄ (cons x₅ (cons x₆ r))))) =
      let early = ltb-false now (head_of ws).cursor.clock x₆ in
      let is = ap (λ (h : Head). h.cursor.clock) (head_is i) in
      (record { later = omega (arith, early, is); since = omega (arith, early, is, i.clock); ends = leb-false OPEN now x₅ }, r)

  -- ---- a clock move
  honest_advance : (now : ℕ) → Passed (Advance now) → Honest (step ws (Advance now)).store (enters a (Advance now))
  unfolding advance
  honest_advance now p =
      let k = (timely now p).0 in
      ran (λ s c. advance_program s c now) p (advance_goes (head_sound i) f now) (advance_head s c now f) (after_advance i.rest i.booked now k.later k.ends)
      (λ t g o. refl) i.once (timed_later k.since i.timed) i.counted

  -- ---- a set
  honest_set : (now tag reading : ℕ) → Passed (Set now tag reading) → Honest (step ws (Set now tag reading)).store (enters a (Set now tag reading))
  unfolding set
  honest_set now tag reading p = go (timely now p).0 (timely now p).1
    where
      go : Timely now → All (λ y. y.applies ≡ false) (set_own (head_of ws) (words_read ws) tag) → Honest (step ws (Set now tag reading)).store (enters a (Set now tag reading))
      go k (cons x₈ (cons x₉ (cons x₁₂ (cons x₁₃ nil)))) =
          let known : tag < s.tags = omega (arith, leb-false (head_of ws).settings.tags tag x₈, tags_are) in
          let free : f (Dir tag) ≡ 0 = sym (word_is i (Dir tag) known) ∙ eqb-true (words_read ws (Dir tag)) 0 (not-false _ x₉) in
          let left : blocks_out (head_with s c) 1 ≡ false = ap (λ (h : Head). blocks_out h 1) (sym (head_is i)) ∙ x₁₃ in
          let sound = set_sound c f i.rest f itself in
          let absent : (t : ℕ) → now ≤ t → t < OPEN → tellings a.log t tag ≡ none = λ t l o. not_there i.rest.full.state tag free t (omega (arith, k.later)) o in
          ran (λ s c. set_program s c now tag reading) p (set_goes (head_sound i) f now tag known reading sound left) (set_head s c now f tag reading)
          (after_set i.rest i.booked now k.later k.ends tag reading known free)
          (λ t g o. sym (tellings_set a.log now tag reading t g (λ l. absent t l o))) (once_set now tag i.once reading absent)
          (timed_more (Set now tag reading) k.since (omega arith) i.timed) (counted_set now tag (omega (arith, k.ends)) i.counted)

  -- ---- a clear, and a new reading
  -- what their own tests say
  record Found (more tag : ℕ) : Type 0 where
    known : tag < s.tags
    stands : f (Dir tag) ≢ 0
    left : blocks_out (head_with s c) (copies (head_with s c) f (tag_block (head_with s c) f tag) + more) ≡ false

  found : (more tag : ℕ) → All (λ y. y.applies ≡ false) (clear_own more (head_of ws) (words_read ws) tag) → Found more tag
  found more tag (cons x₈ (cons x₁₀ (cons x₁₂ (cons x₁₃ nil)))) =
      let known : tag < s.tags = omega (arith, leb-false (head_of ws).settings.tags tag x₈, tags_are) in
      let stands : f (Dir tag) ≢ 0 = λ e. eqb-false (words_read ws (Dir tag)) 0 x₁₀ (word_is i (Dir tag) known ∙ e) in
      let moved = same_copies c f i.rest (words_read ws) (words_same i) tag known stands in
      record {
        known = known;
        stands = stands;
        left = ap (λ (m : ℕ). blocks_out (head_with s c) (m + more)) (sym moved)
            ∙ ap (λ (h : Head). blocks_out h (copies h (words_read ws) (tag_block h (words_read ws) tag) + more)) (sym (head_is i)) ∙ x₁₃;
      }

  honest_clear : (now tag : ℕ) → Passed (Clear now tag) → Honest (step ws (Clear now tag)).store (enters a (Clear now tag))
  unfolding clear
  honest_clear now tag p =
      let q = timely now p in
      let k = q.0 in
      let w = found 0 tag q.1 in
      let sound = clear_sound c f i.rest f itself tag w.known w.stands 0 in
      ran (λ s c. clear_program s c now tag) p (clear_call_goes (head_sound i) f now tag w.known w.stands sound w.left) (clear_head s c now f tag)
      (after-clear i.rest i.booked now k.later k.ends tag w.stands) (λ t g o. sym (tellings_clear a.log now tag t g)) (once_clear now tag i.once)
      (timed_more (Clear now tag) k.since (omega arith) i.timed) (counted_clear now tag (omega (arith, k.ends)) i.counted)

  honest_update : (now tag reading : ℕ) → Passed (Update now tag reading) → Honest (step ws (Update now tag reading)).store (enters a (Update now tag reading))
  unfolding update
  honest_update now tag reading p =
      let q = timely now p in
      let k = q.0 in
      let w = found 1 tag q.1 in
      let sound = clear_sound c f i.rest f itself tag w.known w.stands 1 in
      ran (λ s c. update_program s c now tag reading) p (update_goes (head_sound i) f now tag w.known w.stands reading sound w.left)
      (update_head s c now f tag reading) (after_update i.rest i.booked now k.later k.ends tag w.stands reading w.known)
      (λ t g o. sym (tellings_update a.log now tag reading t g)) (once_update now tag i.once reading)
      (timed_more (Update now tag reading) k.since (omega arith) i.timed) (counted_update now tag (omega (arith, k.ends)) i.counted)

-- ---- a start, on any words
pub honest_start : (ws : List ℕ) (s : Settings) → All (λ y. y.applies ≡ false) (tests_of ws (Start s)) → Honest (step ws (Start s)).store (opening s)
unfolding start
honest_start ws s p = go p
  where
    go : All (λ y. y.applies ≡ false) (tests_of ws (Start s)) → Honest (step ws (Start s)).store (opening s)
    go (cons x₁ (cons x₂ (cons x₄ nil))) =
        let w = limits_within s (not-false _ x₁) in
        let long = ltb-false (length ws) (layout_len s) x₄ in
        let after : (step ws (Start s)).store ≡ with_head (fresh_head s) (cleared s ws) = rw (refusal_none p) in
        subst (λ (us : List ℕ). Honest us (opening s)) (sym after) (record {
          cursor = (fresh_head s).cursor;
          memory = fresh_memory s;
          stored = started s ws long w (ltb-false (length ws) head_len x₂);
          clock = refl;
          rest = rest_fresh s w;
          once = once_empty;
          timed = timed_none;
          booked = booked_fresh s (fresh_memory s);
          counted = counted_empty s;
        })

-- ---- any call
module _ {ws : List ℕ} {a : Account} (i : Honest ws a) where
  -- an accepted one
  honest_accepted : (x : Call) → All (λ y. y.applies ≡ false) (tests_of ws x) → Honest (step ws x).store (enters a x)
  honest_accepted (Start s) p = honest_start ws s p
  honest_accepted (Set now tag reading) p = honest_set i now tag reading p
  honest_accepted (Clear now tag) p = honest_clear i now tag p
  honest_accepted (Update now tag reading) p = honest_update i now tag reading p
  honest_accepted (Advance now) p = honest_advance i now p
  honest_accepted (Ask q) p = i

  -- a refused one leaves the words, and book, log and counts
  pub honest_step : (x : Call) → Honest (step ws x).store (cond (accepted (step ws x).answer) (enters a x) a)
  honest_step x = go (step ws x).answer refl
    where
      e : EveryCall ws x
      e = every_call ws x

      go : (r : Answer) → (step ws x).answer ≡ r → Honest (step ws x).store (cond (accepted r) (enters a x) a)
      go (Done h) q = honest_accepted x (e.accepted_iff.0 (ap accepted q))
      go (Shown v) q = honest_accepted x (e.accepted_iff.0 (ap accepted q))
      go (Numbers l) q = honest_accepted x (e.accepted_iff.0 (ap accepted q))
      go (Refused n) q = subst (λ (us : List ℕ). Honest us a) (sym (e.store_kept n q)) i
