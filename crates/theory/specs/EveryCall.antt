-- EVERY CALL BUT A QUERY, ON ANY WORDS: accepted if and only if no listed refusal applies, refused by the first that does, and the lent words then as before.
-- The head that it hands back is the head of the words left; a change does what its tests foretell, opens at most one block and closes at most two. What its
-- tests say where they do not apply is what `safety` and Foretelling ask.
use Rattle.std.specs.Prelude.{◌≡◌, ◌↔◌, ◌≢◌, Bool, true, false, cond, List, [], map, ℕ, zero, ◌≤◌, ◌<◌, eqb, length}
use Rattle.std.proofs.Math.Path.{refl}
use Rattle.std.proofs.Common.{sym, ap, ◌∙◌, true≢false, arith, ne_eqb, ltb-false, leb-false}
use Rattle.std.proofs.lemmas.Bool.{not-false, eqb-false}
use Rattle.base.specs.Sums.{All, nil, cons, all_map}
use Rattle.layout.specs.declared.settings.Settings.{Settings}
use Rattle.layout.specs.declared.head.Cursor.{Cursor}
use Rattle.layout.specs.declared.head.Head.{Head}
use Rattle.layout.specs.Sizes.{head_len, layout_len, OPEN}
use Rattle.layout.specs.SettingsLaws.{limits_within}
use Rattle.layout.specs.Head.{head_of, with_head, cleared, fresh_head}
use Rattle.layout.specs.Program.{Prog, run_on}
use Rattle.layout.specs.ProgramLaws.{run_length}
use Rattle.layout.specs.OnWords.{over}
use Rattle.layout.specs.declared.address.Address.TheVariants.{Dir}
use Rattle.layout.specs.Memory.{Memory}
use Rattle.layout.specs.HeadLaws.{passes}
use Rattle.layout.specs.OverLaws.{over_good, over_safe}
use Rattle.calls.specs.Calls.{Call, Start, Set, Clear, Update, Advance, Ask, Answer, Done, Refused, accepted, Reply}
use Rattle.calls.specs.Placing.{set_program, clear_program, update_program, advance_program}
use Rattle.calls.specs.Refusals.{Test, refusal, time_tests, set_own, clear_own, tag_block, unsound_clear}
use Rattle.calls.specs.Range.{zeroed}
use Rattle.calls.specs.Claims.{First, EveryCall, OnlyHead, KindOf, lent_by, AllBut13, NotStart, Small, Foretold, ForetoldOf, clear_closes}
use Rattle.calls.specs.Step.{step, tests_of, reply, change, set, clear, update, advance, start, words_read}
use Rattle.safety.specs.Goes.{Goes}
use Rattle.safety.specs.CallSafe.{Next, next_head, advance_goes, set_goes, clear_call_goes, update_goes}
use Rattle.theory.specs.Fresh.{started, started_length}
use Rattle.theory.specs.TestLaws.{numbered, Decided, free, turned, refused, clash}
use Rattle.theory.specs.Stored.{Stored, Left, stored_run, HeadMoved, set_head, clear_head, update_head, advance_head}
use Rattle.theory.specs.Foretelling.{advance_foretold, set_foretold, clear_foretold, update_foretold}
use Rattle.theory.specs.OneChange.{small_same, small_left}

-- ---- a reply by its table: what holds where no refusal applies, and where n is the first that does
module _ (l : List Test) (ws : List ℕ) (h : Head) (after : List ℕ) (k : numbered l ≡ true) where
  by_table : (P : Reply → Type 0) → (All (λ x. x.applies ≡ false) l → P (record { answer = Done h; store = after; lent = [] }))
      → ((n : ℕ) → First l n → P (record { answer = Refused n; store = ws; lent = [] })) → P (reply l ws (Done h) after)
  by_table P accepts refuses = go (refusal l) (refused l k)
    where
      go : (n : ℕ) → Decided l n → P (cond (eqb n 0) (record { answer = Done h; store = after; lent = [] }) (record { answer = Refused n; store = ws; lent = [] }))
      go zero (free a) = accepts a
      go n (turned q f) = rw (ne_eqb n 0 (omega arith)) (refuses n f)

-- what holds of a reply to tests l on the words ws, and of that to a `Change`
record Fair (Change : Type 0) (l : List Test) (ws : List ℕ) (r : Reply) : Type 0 where
  accepted_iff : (accepted r.answer ≡ true) ↔ All (λ x. x.applies ≡ false) l
  refused_first : (n : ℕ) → r.answer ≡ Refused n → First l n
  store_kept : (n : ℕ) → r.answer ≡ Refused n → r.store ≡ ws
  lent_none : r.lent ≡ []
  no_view : OnlyHead r.answer
  same_length : length r.store ≡ length ws
  head_stored : (h : Head) → r.answer ≡ Done h → head_of r.store ≡ h
  small : Change → Small ws r.store

-- what it asks of the words that it leaves with the head h, if it is accepted
record Leaves (Change : Type 0) (ws : List ℕ) (h : Head) (after : List ℕ) : Type 0 where
  long : length after ≡ length ws
  head : head_of after ≡ h
  small : Change → Small ws after

never_refused : {A : Type 0} {h : Head} {n : ℕ} → ◌≡◌ {A = Answer} (Done h) (Refused n) → A
never_refused e = absurd (let z : ◌≡◌ {A = ℕ} 0 1 = cc in omega arith)

reply_fair : {Change : Type 0} (l : List Test) (ws : List ℕ) (h : Head) (after : List ℕ) → numbered l ≡ true
    → (All (λ x. x.applies ≡ false) l → Leaves Change ws h after) → Fair Change l ws (reply l ws (Done h) after)
reply_fair {Change} l ws h after k leaves = by_table l ws h after k (Fair Change l ws)
    (λ a.
    let z = leaves a in
    record {
      accepted_iff = (λ e. a, λ b. refl);
      refused_first = λ n e. never_refused e;
      store_kept = λ n e. never_refused e;
      lent_none = refl;
      no_view = tt;
      same_length = z.long;
      head_stored = λ g e. let y : h ≡ g = cc in z.head ∙ y;
      small = z.small;
    })
    (λ n f. record {
      accepted_iff = (λ e. absurd (let z : ◌≡◌ {A = ℕ} 0 1 = cc in omega arith), λ b. absurd (clash b f));
      refused_first = λ m e. let z : n ≡ m = cc in rw z at f;
      store_kept = λ m e. refl;
      lent_none = refl;
      no_view = tt;
      same_length = refl;
      head_stored = λ g e. never_refused (sym e);
      small = λ _. small_same ws;
    })

-- a call that is no query
abbrev asks : Call → Bool
asks (Start s) = false
asks (Set s tag reading) = false
asks (Clear s tag) = false
asks (Update s tag reading) = false
asks (Advance s) = false
asks (Ask q) = true

no_query : (c : Call) (a : Answer) → asks c ≡ false → OnlyHead a → KindOf c a
no_query (Start s) a k n = n
no_query (Set s tag reading) a k n = n
no_query (Clear s tag) a k n = n
no_query (Update s tag reading) a k n = n
no_query (Advance s) a k n = n
no_query (Ask q) a k n = absurd (true≢false k)

-- the claim, of a call that is lent no buffer
fair_every : {ws : List ℕ} {c : Call} → asks c ≡ false → lent_by c ≡ [] → Fair (NotStart c) (tests_of ws c) ws (step ws c)
    → (AllBut13 (tests_of ws c) → ForetoldOf (head_of ws) (words_read ws) c) → EveryCall ws c
fair_every {ws} {c} k r f told = record {
  accepted_iff = f.accepted_iff;
  refused_first = f.refused_first;
  store_kept = f.store_kept;
  buffers_kept = λ n e d. f.lent_none ∙ sym r;
  buffers_zero = λ e. f.lent_none ∙ sym (ap zeroed r);
  of_its_kind = no_query c (step ws c).answer k f.no_view;
  head_stored = f.head_stored;
  foretold = told;
  small = f.small;
  same_lengths = (f.same_length, ap (λ (l : List (List ℕ)). map length l) (f.lent_none ∙ sym r));
  query_reads = λ q e. absurd (true≢false (sym (ap asks e) ∙ k));
}

-- ---- start
pub every_start : (ws : List ℕ) (s : Settings) → EveryCall ws (Start s)
unfolding start
every_start ws s = fair_every refl refl (reply_fair (tests_of ws (Start s)) ws (fresh_head s) (with_head (fresh_head s) (cleared s ws)) refl leaves) (λ a. tt)
  where
    leaves : All (λ x. x.applies ≡ false) (tests_of ws (Start s)) → Leaves ⊥ ws (fresh_head s) (with_head (fresh_head s) (cleared s ws))
    leaves (cons x (cons y (cons z nil))) =
        let room = ltb-false (length ws) (layout_len s) z in
        let long = ltb-false (length ws) head_len y in
        record {
          long = started_length s ws room long;
          head = sym (started s ws room (limits_within s (not-false _ x)) long).read.is;
          small = λ k. absurd k;
        }

-- no refusal applies, so none but 13
all_but : {l : List Test} → All (λ x. x.applies ≡ false) l → AllBut13 l
all_but a = all_map (λ x e _. e) a

-- ---- a change at s: the words are a store with a sound head, and s is a second not before the clock
record MayChange (ws : List ℕ) (s : ℕ) : Type 0 where
  stored : Stored ws (head_of ws) (words_read ws)
  ends : s < OPEN

ready : (ws : List ℕ) (s : ℕ) {l : List Test} → AllBut13 (time_tests ws s l) → MayChange ws s × AllBut13 l
ready ws s (cons x₂ (cons x₃ (cons x₄ (cons x₅ (cons x₆ r))))) =
    let h = head_of ws in
    let ends : s < OPEN = leb-false OPEN s (x₅ (omega arith)) in
    let early : h.cursor.clock ≤ s = ltb-false s h.cursor.clock (x₆ (omega arith)) in
    let long : layout_len h.settings ≤ length ws = ltb-false (length ws) (layout_len h.settings) (x₄ (omega arith)) in (
      record {
        stored = record {
          read = passes ws (ltb-false (length ws) head_len (x₂ (omega arith))) (omega arith) (x₃ (omega arith));
          agree = record { good = over_good h.settings (record { long = long }); same = record { at = λ a m. refl } };
        };
        ends = ends;
      },
      r,
    )

-- behind the tests of the words and of the second
own : (ws : List ℕ) (s : ℕ) {l : List Test} → All (λ x. x.applies ≡ false) (time_tests ws s l) → All (λ x. x.applies ≡ false) l
own ws s (cons x₂ (cons x₃ (cons x₄ (cons x₅ (cons x₆ r))))) = r

-- ---- the four changes
module _ (ws : List ℕ) (s : ℕ) where
  abbrev h : Head
  h = head_of ws

  abbrev f : Memory
  f = words_read ws

  -- what a run leaves, where each address is the layout's and the cursor is within its bounds
  left_by : (p : Prog Cursor) → MayChange ws s → Goes h.settings p f (λ d g. Next h.settings s d) → HeadMoved (run_on p f).0 f (run_on p f).1 → Left h.settings p ws f
  left_by p i goes moved =
      stored_run p i.stored (over_safe h.settings p f goes.safe) moved (next_head i.stored.read.sound.within i.ends goes.leaves)

  -- a change, by the words that its run leaves and by what its tests foretell
  changed : {Change : Type 0} (l : List Test) (p : Prog Cursor) {now incoming x : ℕ} {W : ℕ → Bool} → numbered l ≡ true
      → (All (λ y. y.applies ≡ false) l → Left h.settings p ws f) → (AllBut13 l → Foretold h f now incoming W (run_on p f))
      → ((n : ℕ) → n ≢ x → n ≢ h.cursor.opened → W n ≡ false) → Fair Change l ws (change l ws p)
  changed l p k left told others = reply_fair l ws _ _ k (λ a.
      let z = left a in
      record {
        long = run_length (over h.settings) p ws;
        head = sym z.store.read.is ∙ ap (λ (d : Cursor). record { settings = h.settings; cursor = d }) (sym z.answer);
        small = λ _. small_left z (told (all_but a)) others;
      })

  -- ---- a clock move
  advance_left : All (λ y. y.applies ≡ false) (time_tests ws s []) → Left h.settings (advance_program h.settings h.cursor s) ws f
  advance_left a =
      let i = (ready ws s (all_but a)).0 in
      let sound = i.stored.read.sound in
      left_by _ i (advance_goes sound f s) (advance_head h.settings h.cursor s f)

  advance_told : AllBut13 (tests_of ws (Advance s)) → ForetoldOf h f (Advance s)
  advance_told a = advance_foretold h (ready ws s a).0.stored.read.sound f s

  pub every_advance : EveryCall ws (Advance s)
  unfolding advance
  every_advance = fair_every refl refl
      (changed (time_tests ws s []) (advance_program h.settings h.cursor s) {x = 0} refl advance_left advance_told (λ n a b. refl)) advance_told

  module _ (tag : ℕ) where
    -- ---- a set
    set_left : (reading : ℕ) → MayChange ws s → All (λ y. y.applies ≡ false) (set_own h f tag) → Left h.settings (set_program h.settings h.cursor s tag reading) ws f
    set_left reading i (cons x₈ (cons x₉ (cons x₁₂ (cons x₁₃ nil)))) =
        let sound = i.stored.read.sound in
        let known : tag < h.settings.tags = leb-false h.settings.tags tag x₈ in
        left_by _ i (set_goes sound f s tag known reading x₁₂ x₁₃) (set_head h.settings h.cursor s f tag reading)

    set_told : (reading : ℕ) → AllBut13 (tests_of ws (Set s tag reading)) → ForetoldOf h f (Set s tag reading)
    set_told reading a = set_foretold h (ready ws s a).0.stored.read.sound f s tag reading

    pub every_set : (reading : ℕ) → EveryCall ws (Set s tag reading)
    unfolding set
    every_set reading = fair_every refl refl
        (changed (tests_of ws (Set s tag reading)) (set_program h.settings h.cursor s tag reading) {x = 0} refl
        (λ a. set_left reading (ready ws s (all_but a)).0 (own ws s a)) (set_told reading) (λ n a b. rw (ne_eqb n h.cursor.opened b)))
        (set_told reading)

    -- ---- a clear, and a new reading
    others : (more n : ℕ) → n ≢ tag_block h f tag → n ≢ h.cursor.opened → clear_closes h f more tag n ≡ false
    others more n a b = rw (ne_eqb n (tag_block h f tag) a, ne_eqb n h.cursor.opened b)

    clear-own : (more : ℕ) → AllBut13 (clear_own more h f tag) → (f (Dir tag) ≢ 0) × (unsound_clear h f more tag ≡ false)
    clear-own more (cons x₈ (cons x₁₀ (cons x₁₂ (cons x₁₃ nil)))) = (eqb-false (f (Dir tag)) 0 (x₁₀ (omega arith)), x₁₂ (omega arith))

    clear_left : MayChange ws s → All (λ y. y.applies ≡ false) (clear_own 0 h f tag) → Left h.settings (clear_program h.settings h.cursor s tag) ws f
    clear_left i (cons x₈ (cons x₁₀ (cons x₁₂ (cons x₁₃ nil)))) =
        let sound = i.stored.read.sound in
        let known : tag < h.settings.tags = leb-false h.settings.tags tag x₈ in
        let d = eqb-false (f (Dir tag)) 0 x₁₀ in
        left_by _ i (clear_call_goes sound f s tag known d x₁₂ x₁₃) (clear_head h.settings h.cursor s f tag)

    clear_told : AllBut13 (tests_of ws (Clear s tag)) → ForetoldOf h f (Clear s tag)
    clear_told a =
        let z = ready ws s a in
        let o = clear-own 0 z.1 in
        clear_foretold h z.0.stored.read.sound f s tag o.0 o.1

    pub every_clear : EveryCall ws (Clear s tag)
    unfolding clear
    every_clear = fair_every refl refl
        (changed (tests_of ws (Clear s tag)) (clear_program h.settings h.cursor s tag) refl
        (λ a. clear_left (ready ws s (all_but a)).0 (own ws s a)) clear_told (others 0))
        clear_told

    update_left : (reading : ℕ) → MayChange ws s → All (λ y. y.applies ≡ false) (clear_own 1 h f tag)
        → Left h.settings (update_program h.settings h.cursor s tag reading) ws f
    update_left reading i (cons x₈ (cons x₁₀ (cons x₁₂ (cons x₁₃ nil)))) =
        let sound = i.stored.read.sound in
        let known : tag < h.settings.tags = leb-false h.settings.tags tag x₈ in
        let d = eqb-false (f (Dir tag)) 0 x₁₀ in
        left_by _ i (update_goes sound f s tag known d reading x₁₂ x₁₃) (update_head h.settings h.cursor s f tag reading)

    update_told : (reading : ℕ) → AllBut13 (tests_of ws (Update s tag reading)) → ForetoldOf h f (Update s tag reading)
    update_told reading a =
        let z = ready ws s a in
        let o = clear-own 1 z.1 in
        update_foretold h z.0.stored.read.sound f s tag reading o.0 o.1

    pub every_update : (reading : ℕ) → EveryCall ws (Update s tag reading)
    unfolding update
    every_update reading = fair_every refl refl
        (changed (tests_of ws (Update s tag reading)) (update_program h.settings h.cursor s tag reading) refl
        (λ a. update_left reading (ready ws s (all_but a)).0 (own ws s a)) (update_told reading) (others 1))
        (update_told reading)
