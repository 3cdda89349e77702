-- THE REFUSALS AFTER A HISTORY, by the account alone: on honest words the tests of a call decide as those that the account foretells (decides). So a call is
-- accepted exactly if the account allows it, refusal 12 comes to no call, and a look-back is answered whenever it may be asked.
use Rattle.std.specs.Prelude.{◌≡◌, refl, ◌≢◌, ◌↔◌, Bool, true, false, cond, not, ◌&&◌, ◌||◌, List, [], ◌∷◌, ◌++◌, ℕ, ◌+◌, ◌*◌, ◌≤◌, ◌<◌, eqb, ltb, leb, length}
use Rattle.std.proofs.Common.{sym, ap, ◌∙◌, arith, eq-eqb, ne_eqb, lt-ltb, le-ltb, ltb-false, leb-false}
use Rattle.std.proofs.lemmas.Bool.{lt-leb}
use Rattle.base.specs.Branch.{is?, by_test, or-false}
use Rattle.base.specs.Sums.{All, nil, cons}
use Rattle.layout.specs.declared.settings.Settings.{Settings}
use Rattle.layout.specs.declared.head.Cursor.{Cursor}
use Rattle.layout.specs.declared.head.Head.{Head}
use Rattle.layout.specs.declared.address.Address.TheVariants.{Dir}
use Rattle.layout.specs.Sizes.{OPEN, head_len, row_len, layout_len}
use Rattle.layout.specs.Memory.{Memory}
use Rattle.layout.specs.Head.{head_of}
use Rattle.layout.specs.OverLaws.{over_fits}
use Rattle.calls.specs.Calls.{Call, Start, Set, Clear, Update, Advance, Ask, LookBack, Window, Refused, accepted}
use Rattle.calls.specs.Refusals.{Test, opens, tag_block, copies, unsound_set, unsound_clear, blocks_out, store_tests, time_tests, clear_own, is_open}
use Rattle.calls.specs.Range.{crossing}
use Rattle.calls.specs.Window.{unknown_tag}
use Rattle.calls.specs.Step.{step, tests_of, words_read}
use Rattle.calls.specs.Book.{Book, book_set, book_clear, book_update}
use Rattle.calls.specs.Log.{so_far, among, state_at}
use Rattle.calls.specs.History.{Account, enters, out_of_blocks, account_time, account_clear, account_tests}
use Rattle.calls.specs.Claims.{First, Asked, WindowAsked}
use Rattle.theory.specs.Timeline.{none}
use Rattle.theory.specs.State.{free, not_found}
use Rattle.theory.specs.SoFar.{so-far, among_none, none_among, never_shows}
use Rattle.theory.specs.LogLaws.{tellings}
use Rattle.theory.specs.Foretelling.{set_foretold, clear_foretold, update_foretold}
use Rattle.theory.specs.Rest.{head_with, copies_of, booked_length, after_set, after-clear, after_update}
use Rattle.theory.specs.Sound.{set_sound, clear_sound, same_copies}
use Rattle.theory.specs.Right.{walk_sound}
use Rattle.theory.specs.Stored.{head_passes}
use Rattle.theory.specs.TestLaws.{TablesAlike, same, both, idle, alike_free, free_alike, alike_first, lacks, never_first}
use Rattle.theory.specs.AnyCall.{every_call}
use Rattle.theory.specs.HonestWindow.{window_sound}
use Rattle.theory.specs.Honest.{Honest, head_is, word_is, sound, words_same, head_sound}

-- refusal 13 by the blocks that there would be
out_is : (h : Head) (m n : ℕ) → h.cursor.opened ≤ h.settings.blocks → n ≡ cond (opens h m) (h.cursor.opened + 1) h.cursor.opened
    → blocks_out h m ≡ ltb h.settings.blocks n
unfolding blocks_out
out_is h m n limit e =
    let N = h.cursor.opened in
    let B = h.settings.blocks in
    by_test (opens h m) (λ b. n ≡ cond b (N + 1) N → (b && eqb N B) ≡ ltb B n)
    (λ t q. is? N B
    (λ z. eq-eqb N B z ∙ sym (lt-ltb B n (omega arith)))
    (λ d. ne_eqb N B d ∙ sym (le-ltb B n (omega arith))))
    (λ t q. sym (le-ltb B n (omega arith)))
    e

module _ {ws : List ℕ} {a : Account} (i : Honest ws a) where
  abbrev s : Settings
  s = a.settings

  abbrev c : Cursor
  c = i.cursor

  abbrev f : Memory
  f = i.memory

  abbrev h : Head
  h = head_with s c

  pub settings_is : (head_of ws).settings ≡ s
  settings_is = ap (λ (x : Head). x.settings) (head_is i)

  pub clock_is : (head_of ws).cursor.clock ≡ a.clock
  clock_is = ap (λ (x : Head). x.cursor.clock) (head_is i) ∙ i.clock

  -- ---- the directory's word is 0 exactly for the tags that do not stand
  pub free_among : (tag : ℕ) → f (Dir tag) ≡ 0 → among tag (so_far a.log) ≡ false
  free_among tag e =
      let t = i.rest.full.state.past in
      let absent : tellings a.log a.clock tag ≡ none = rw (← i.clock) (free i.rest.full.state tag e c.clock (omega arith) t) in
      rw (← so-far i.timed) (none_among tag (state_at a.log a.clock) absent)

  pub among_free : (tag : ℕ) → among tag (so_far a.log) ≡ false → f (Dir tag) ≡ 0
  among_free tag e =
      not_found i.rest.full.state tag (rw i.clock (among_none tag (state_at a.log a.clock) (rw (so-far i.timed) e)))

  word_free : (tag : ℕ) → tag < s.tags → eqb (words_read ws (Dir tag)) 0 ≡ not (among tag (so_far a.log))
  word_free tag known = by_test (among tag (so_far a.log)) (λ b. among tag (so_far a.log) ≡ b → eqb (words_read ws (Dir tag)) 0 ≡ not b)
      (λ t q. ne_eqb (words_read ws (Dir tag)) 0 (λ e. let z = free_among tag (sym (word_is i (Dir tag) known) ∙ e) in let y : ◌≡◌ {A = ℕ} 0 1 = cc in omega arith))
      (λ t q. eq-eqb (words_read ws (Dir tag)) 0 (word_is i (Dir tag) known ∙ among_free tag q))
      refl

  -- ---- the tests of the words never apply, those of the second are the account's
  by_store : {l m : List Test} → TablesAlike l m → TablesAlike (store_tests ws l) m
  by_store g =
      let room : ltb (length ws) (layout_len (head_of ws).settings) ≡ false =
      ap (λ (x : Settings). ltb (length ws) (layout_len x)) settings_is ∙ le-ltb (length ws) (layout_len s) (over_fits s i.stored.agree.good).long in
      idle (le-ltb (length ws) head_len i.stored.read.long) (idle (head_passes i.stored.read) (idle room g))

  by_time : (now : ℕ) {l m : List Test} → (c.clock ≤ now → now < OPEN → TablesAlike l m) → TablesAlike (time_tests ws now l) (account_time a now m)
  by_time now g =
      by_store (both refl refl (λ x₅. both refl (ap (λ (t : ℕ). ltb now t) clock_is) (λ x₆.
      g (omega (arith, i.clock, ltb-false now a.clock x₆)) (leb-false OPEN now x₅))))

  tags_is : (tag : ℕ) → leb (head_of ws).settings.tags tag ≡ leb s.tags tag
  tags_is tag = ap (λ (x : Settings). leb x.tags tag) settings_is

  -- ---- refusal 13, by the blocks of the book after the change
  set_out : (now tag reading : ℕ) → c.clock ≤ now → now < OPEN → tag < s.tags → f (Dir tag) ≡ 0 → blocks_out (head_of ws) 1 ≡ out_of_blocks a (book_set now tag a.book)
  set_out now tag reading later ends known d =
      ap (λ (x : Head). blocks_out x 1) (head_is i)
      ∙ out_is h 1 _ (head_sound i).opened
      (booked_length (after_set i.rest i.booked now later ends tag reading known d).booked ∙ (set_foretold h (head_sound i) f now tag reading).blocks)

  module _ (now tag : ℕ) (later : c.clock ≤ now) (ends : now < OPEN) (known : tag < s.tags) (d : f (Dir tag) ≢ 0) where
    incoming : (more : ℕ) → blocks_out (head_of ws) (copies (head_of ws) (words_read ws) (tag_block (head_of ws) (words_read ws) tag) + more)
        ≡ blocks_out h (copies_of s c f tag + more)
    incoming more =
        ap (λ (x : Head). blocks_out x (copies x (words_read ws) (tag_block x (words_read ws) tag) + more)) (head_is i)
        ∙ ap (λ (m : ℕ). blocks_out h (m + more)) (same_copies c f i.rest (words_read ws) (words_same i) tag known d)

    own_sound : (more : ℕ) → unsound_clear h f more tag ≡ false
    own_sound more = clear_sound c f i.rest f (record { at = λ x v. refl }) tag known d more

    clear_out : blocks_out (head_of ws) (copies (head_of ws) (words_read ws) (tag_block (head_of ws) (words_read ws) tag) + 0)
        ≡ out_of_blocks a (book_clear now tag a.book)
    clear_out =
        incoming 0 ∙ out_is h (copies_of s c f tag + 0) _ (head_sound i).opened
        (booked_length (after-clear i.rest i.booked now later ends tag d).booked ∙ (clear_foretold h (head_sound i) f now tag d (own_sound 0)).blocks)

    update_out : (reading : ℕ) → blocks_out (head_of ws) (copies (head_of ws) (words_read ws) (tag_block (head_of ws) (words_read ws) tag) + 1)
        ≡ out_of_blocks a (book_update now tag a.book)
    update_out reading =
        incoming 1 ∙ out_is h (copies_of s c f tag + 1) _ (head_sound i).opened
        (booked_length (after_update i.rest i.booked now later ends tag d reading known).booked
        ∙ (update_foretold h (head_sound i) f now tag reading d (own_sound 1)).blocks)

  -- ---- the tests of each call
  by_set : (now tag reading : ℕ) → TablesAlike (tests_of ws (Set now tag reading)) (account_tests (length ws) a (Set now tag reading))
  by_set now tag reading = by_time now (λ later ends. both refl (tags_is tag) (λ x₈.
      let known = leb-false s.tags tag x₈ in
      both refl (ap not (word_free tag known) ∙ twice (among tag (so_far a.log))) (λ x₉.
      idle (ap (λ (x : Head). unsound_set x (words_read ws)) (head_is i) ∙ set_sound c f i.rest (words_read ws) (words_same i))
      (both refl (set_out now tag reading later ends known (among_free tag x₉)) (λ x₁₃. same)))))
    where
      twice : (b : Bool) → not (not b) ≡ b
      twice true = refl
      twice false = refl

  by_clear : (more now tag : ℕ) (after : Book)
      → (c.clock ≤ now → now < OPEN → tag < s.tags → f (Dir tag) ≢ 0
      → blocks_out (head_of ws) (copies (head_of ws) (words_read ws) (tag_block (head_of ws) (words_read ws) tag) + more) ≡ out_of_blocks a after)
      → TablesAlike (time_tests ws now (clear_own more (head_of ws) (words_read ws) tag)) (account_clear a now tag after)
  by_clear more now tag after out = by_time now (λ later ends. both refl (tags_is tag) (λ x₈.
      let known = leb-false s.tags tag x₈ in
      both refl (word_free tag known) (λ x₁₀.
      let d : f (Dir tag) ≢ 0 = λ e. let y = free_among tag e in let z : ◌≡◌ {A = ℕ} 0 1 = cc in omega arith in
      idle (ap (λ (x : Head). unsound_clear x (words_read ws) more tag) (head_is i) ∙ clear_sound c f i.rest (words_read ws) (words_same i) tag known d more)
      (both refl (out later ends known d) (λ x₁₃. same)))))

  short_is : (rows list : List ℕ) → (ltb (length rows) (row_len * (head_of ws).settings.tags) || ltb (length list) (head_of ws).settings.blocks)
      ≡ (ltb (length rows) (row_len * s.tags) || ltb (length list) s.blocks)
  short_is rows list = ap (λ (x : Settings). ltb (length rows) (row_len * x.tags) || ltb (length list) x.blocks) settings_is

  pub decides : (x : Call) → TablesAlike (tests_of ws x) (account_tests (length ws) a x)
  decides (Start r) = both refl refl (λ x₁. idle (le-ltb (length ws) head_len i.stored.read.long) (both refl refl (λ x₄. same)))
  decides (Set now tag reading) = by_set now tag reading
  decides (Clear now tag) = by_clear 0 now tag (book_clear now tag a.book) (λ later ends known d. clear_out now tag later ends known d)
  decides (Update now tag reading) = by_clear 1 now tag (book_update now tag a.book) (λ later ends known d. update_out now tag later ends known d reading)
  decides (Advance now) = by_time now (λ later ends. same)
  decides (Ask (LookBack t rows list)) =
      by_store (both refl refl (λ x₅. both refl (ap (λ (x : ℕ). ltb x t) clock_is) (λ x₇. both refl (short_is rows list) (λ x₁₁.
      idle (walk_sound ws (sound i t (leb-false OPEN t x₅))) same))))
  decides (Ask (Window first last rows)) =
      by_store (both refl refl (λ x₅. both refl refl (λ x₁₄. both refl (ap (λ (x : ℕ). ltb x last) clock_is) (λ x₇.
      both refl (ap (λ (x : Settings). ltb (length rows) (row_len * x.tags)) settings_is) (λ x₁₁.
      let ends = leb-false OPEN last (or-false (is_open first) (is_open last) x₅).1 in
      idle (ap (λ (x : Settings). unknown_tag x.tags (crossing first last ws)) settings_is
      ∙ window_sound i first last (ltb-false last first x₁₄) ends) same)))))

  -- ---- what follows
  pub allowed_iff : (x : Call) → (accepted (step ws x).answer ≡ true) ↔ All (λ y. y.applies ≡ false) (account_tests (length ws) a x)
  allowed_iff x = (λ e. alike_free (decides x) ((every_call ws x).accepted_iff.0 e), λ p. (every_call ws x).accepted_iff.1 (free_alike (decides x) p))

  pub refused-by : (x : Call) (n : ℕ) → (step ws x).answer ≡ Refused n → First (account_tests (length ws) a x) n
  refused-by x n e = alike_first (decides x) ((every_call ws x).refused_first n e)

  -- REFUSAL 12 NEVER COMES
  no_12 : (x : Call) → lacks 12 (account_tests (length ws) a x) ≡ true
  no_12 (Start r) = refl
  no_12 (Set now tag reading) = refl
  no_12 (Clear now tag) = refl
  no_12 (Update now tag reading) = refl
  no_12 (Advance now) = refl
  no_12 (Ask (LookBack t rows list)) = refl
  no_12 (Ask (Window first last rows)) = refl

  pub never_unsound : (x : Call) → (step ws x).answer ≢ Refused 12
  never_unsound x e = never_first (no_12 x) (refused-by x 12 e)

  pub answered_iff : (t : ℕ) (rows list : List ℕ) → (accepted (step ws (Ask (LookBack t rows list))).answer ≡ true) ↔ Asked a t rows list
  answered_iff t rows list = (λ e. asks ((allowed_iff (Ask (LookBack t rows list))).0 e), λ q. (allowed_iff (Ask (LookBack t rows list))).1 (asked q))
    where
      asks : All (λ y. y.applies ≡ false) (account_tests (length ws) a (Ask (LookBack t rows list))) → Asked a t rows list
      asks (cons x₅ (cons x₇ (cons x₁₁ nil))) =
          let room = or-false (ltb (length rows) (row_len * s.tags)) _ x₁₁ in
          record {
            second = leb-false OPEN t x₅;
            past = ltb-false a.clock t x₇;
            row_room = ltb-false (length rows) (row_len * s.tags) room.0;
            list_room = ltb-false (length list) s.blocks room.1;
          }

      asked : Asked a t rows list → All (λ y. y.applies ≡ false) (account_tests (length ws) a (Ask (LookBack t rows list)))
      asked q =
          let short : (ltb (length rows) (row_len * s.tags) || ltb (length list) s.blocks) ≡ false =
          rw (le-ltb (length rows) (row_len * s.tags) q.row_room) (le-ltb (length list) s.blocks q.list_room) in
          cons (lt-leb OPEN t q.second) (cons (le-ltb a.clock t q.past) (cons short nil))

  -- a window is answered whenever it may be asked
  pub window_iff : (first last : ℕ) (rows : List ℕ) → (accepted (step ws (Ask (Window first last rows))).answer ≡ true) ↔ WindowAsked a first last rows
  window_iff first last rows = (λ e. asks ((allowed_iff (Ask (Window first last rows))).0 e), λ q. (allowed_iff (Ask (Window first last rows))).1 (asked q))
    where
      asks : All (λ y. y.applies ≡ false) (account_tests (length ws) a (Ask (Window first last rows))) → WindowAsked a first last rows
      asks (cons x₅ (cons x₁₄ (cons x₇ (cons x₁₁ nil)))) = record {
        order = ltb-false last first x₁₄;
        second = leb-false OPEN last (or-false (is_open first) (is_open last) x₅).1;
        past = ltb-false a.clock last x₇;
        row_room = ltb-false (length rows) (row_len * s.tags) x₁₁;
      }

      asked : WindowAsked a first last rows → All (λ y. y.applies ≡ false) (account_tests (length ws) a (Ask (Window first last rows)))
      asked q =
          let ends : (is_open first || is_open last) ≡ false =
          rw (lt-leb OPEN first (omega (arith, q.order, q.second))) (lt-leb OPEN last q.second) in
          cons ends (cons (le-ltb last first q.order) (cons (le-ltb a.clock last q.past) (cons (le-ltb (length rows) (row_len * s.tags) q.row_room) nil)))

  -- one set and cleared within a second never shows
  pub brief : (now tag reading t : ℕ) → accepted (step ws (Set now tag reading)).answer ≡ true
      → state_at (enters (enters a (Set now tag reading)) (Clear now tag)).log t ≡ state_at a.log t
  brief now tag reading t e = go ((allowed_iff (Set now tag reading)).0 e)
    where
      go : All (λ y. y.applies ≡ false) (account_tests (length ws) a (Set now tag reading))
          → state_at (a.log ++ (Set now tag reading ∷ []) ++ (Clear now tag ∷ [])) t ≡ state_at a.log t
      go (cons x₅ (cons x₆ (cons x₈ (cons x₉ r)))) = never_shows now tag reading t i.timed (ltb-false now a.clock x₆) x₉
