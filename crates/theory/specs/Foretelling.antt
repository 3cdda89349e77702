-- WHAT THE TESTS FORETELL, THE CHANGE DOES (Foretold), on any memory to which no refusal but 13 applies: from the closed words along a change (Closed) to
-- the words of the tests, `opens`, `closes` and `acceptor_closes`.
use Rattle.std.proofs.Math.Path.{◌≡◌, refl, sym, ap, subst}
use Rattle.std.proofs.Common.{◌∙◌, zero-add, arith}
use Rattle.std.specs.Prelude.{◌≢◌, Bool, false, ◌&&◌, ◌||◌, ℕ, ◌+◌, ◌-◌, ◌≤◌, ◌<◌, ltb}
use Rattle.std.proofs.Math.Bool.{true, cond, and-true, and-false, or-false}
use mathlib.Core.List.{List, ◌∷◌}
use Rattle.std.proofs.Math.Dec.{eqb}
use Rattle.std.proofs.Math.ListN.{length}
use borrow.Author.Tests.{eqb-false, eq-eqb, ne_eqb, lt-ltb, le-ltb, ltb-true}
use Rattle.base.specs.Branch.{is?, lt?, cond_all}
use Rattle.base.specs.Bits.{without_bit}
use Rattle.layout.specs.declared.settings.Settings.{Settings}
use Rattle.layout.specs.declared.head.Cursor.{Cursor}
use Rattle.layout.specs.declared.head.Head.{Head}
use Rattle.layout.specs.declared.standing.Standing.{Standing}
use Rattle.layout.specs.declared.address.Address.TheVariants.{Dir}
use Rattle.layout.specs.Memory.{Memory, put}
use Rattle.layout.specs.Program.{run_on}
use Rattle.layout.specs.Cursor.{store_cursor}
use Rattle.layout.specs.HeadLaws.{SoundHead}
use Rattle.layout.specs.Standing.{slots, lowered, block_bits}
use Rattle.calls.specs.Placing.{slot_of, end_record, standing, put_record, roll, make_room, place, replace, unlink, close, judge, clear_tag, finish, set_program, clear_program, update_program, advance_program}
use Rattle.calls.specs.Refusals.{opens, taken_up, acceptor_closes, tag_block, remaining, closes, copies, after_clear, unsound_clear}
use Rattle.calls.specs.Claims.{Foretold, set_closes, incoming_clear, clear_closes}
use Rattle.safety.specs.Sound.{bit_lowered, bit_elsewhere}
use Rattle.safety.specs.TestLaws.{lies, fewer, copies_few}
use Rattle.theory.specs.RunLaws.{each_walk}
use Rattle.theory.specs.Closed.{closed_of, too_few, unlink_shuts, open_grows, Along, before, after, place_along, replace_along}

-- a test of two numbers may be turned round
eqb_turn : (a b : ℕ) → eqb a b ≡ eqb b a
eqb_turn a b = is? a b (λ e. rw e) (λ d. simp (ne_eqb a b d, ne_eqb b a (λ e. d (sym e))))

-- closed by the one or by the other
either : {A : Type 0} (x y : Bool) (v w : A) → cond y v (cond x v w) ≡ cond (x || y) v w
either true true v w = refl
either true false v w = refl
either false y v w = refl

module _ (h : Head) (sound : SoundHead h) where
  abbrev s : Settings
  s = h.settings

  abbrev N : ℕ
  N = h.cursor.opened

  abbrev room : ℕ
  room = s.block - h.cursor.fill

  -- with blocks there already, one opens exactly if the records have no room
  opens_over : (m : ℕ) → 1 ≤ N → opens h m ≡ ltb s.block (h.cursor.fill + m)
  opens_over m low = lt? s.block (h.cursor.fill + m)
      (λ l. simp (lt-ltb 0 m (omega (arith, sound.fill)), ne_eqb N 0 (λ e. omega arith), lt-ltb _ _ l))
      (λ l. simp (ne_eqb N 0 (λ e. omega arith), le-ltb _ _ l, and-false))

  module _ (f : Memory) (now : ℕ) where
    -- The end of a change: X tells which blocks closed before the acceptor, whose standing bits are then a.
    abbrev Tracked : (ℕ → Bool) → Standing → ℕ → ℕ → Cursor → Memory → Type 0
    Tracked X a incoming m d g =
        Along s N (h.cursor.fill + incoming) now (too_few s (taken_up a h.cursor.fill room)) (λ n. cond (X n) now (closed_of f n)) m d g

    tracked_foretold : (X : ℕ → Bool) (a : Standing) (incoming : ℕ) (d : Cursor) (g : Memory) → 1 ≤ N → Tracked X a incoming 0 d g
        → Foretold h f now incoming (λ n. X n || (eqb n N && acceptor_closes h a incoming)) (d, g)
    tracked_foretold X a incoming d g low (before i) =
        let o : opens h incoming ≡ false = opens_over incoming low ∙ le-ltb s.block (h.cursor.fill + incoming) (omega (arith, i.fill, i.fits)) in
        record {
          blocks = rw o i.opened;
          closed = λ n l k.
              let same : X n ≡ (X n || (eqb n N && acceptor_closes h a incoming)) = sym (simp (o, and-false, or-false)) in
              i.closed n ∙ ap (λ (b : Bool). cond b now (closed_of f n)) same;
          new = λ e. absurd (let z : ◌≡◌ {A = ℕ} 0 1 = cc in omega arith);
        }
    tracked_foretold X a incoming d g low (after i) =
        let few = too_few s (taken_up a h.cursor.fill room) in
        let o : opens h incoming ≡ true = opens_over incoming low ∙ lt-ltb s.block (h.cursor.fill + incoming) i.over in
        let last : acceptor_closes h a incoming ≡ few = rw (o, ne_eqb N 0 (λ e. omega arith)) in
        record {
          blocks = rw o i.opened;
          closed = λ n l k. i.closed n (λ e. omega arith) ∙ either (X n) (eqb N n && few) now (closed_of f n)
              ∙ rw (last, eqb_turn n N);
          new = λ e. i.new;
        }

    -- the cursor is stored
    finish_foretold : {m : ℕ} {W : ℕ → Bool} (d : Cursor) (g : Memory) → Foretold h f now m W (d, g) → Foretold h f now m W (run_on (finish s now d) g)
    unfolding finish store_cursor
    finish_foretold d g i = record { blocks = i.blocks; closed = i.closed; new = i.new }

    -- ---- the clock moves
    pub advance_foretold : Foretold h f now 0 (λ n. false) (run_on (advance_program s h.cursor now) f)
    unfolding advance_program
    advance_foretold = finish_foretold h.cursor f (record { blocks = refl; closed = λ n l k. refl; new = λ e. absurd (let z : ◌≡◌ {A = ℕ} 0 1 = cc in omega arith) })

    -- ---- a tag is set
    -- the first record of all opens block 1
    first_foretold : (tag reading : ℕ) → N ≡ 0 → Foretold h f now 1 (set_closes h f) (run_on (place s h.cursor now tag reading) f)
    unfolding place make_room roll put_record
    first_foretold tag reading e =
        let w = open_grows h.cursor now f in
        let none = eq-eqb N 0 e in
        record { blocks = rw none w.opened; closed = λ n l k. absurd (omega arith); new = λ t. rw none w.new }

    set_placed : (tag reading : ℕ) → Foretold h f now 1 (set_closes h f) (run_on (place s h.cursor now tag reading) f)
    set_placed tag reading = is? N 0
        (λ e. first_foretold tag reading e)
        (λ d.
        let low : 1 ≤ N = omega arith in
        let z = run_on (place s h.cursor now tag reading) f in
        tracked_foretold (λ n. false) (block_bits f N) 1 z.0 z.1 low
        (place_along sound.within low {m = 0} h.cursor f tag reading sound.within.some
        (before (record { opened = refl; fill = refl; fits = sound.fill; bits = refl; closed = λ n. refl }))))

    pub set_foretold : (tag reading : ℕ) → Foretold h f now 1 (set_closes h f) (run_on (set_program s h.cursor now tag reading) f)
    unfolding set_program
    set_foretold tag reading = let z = run_on (place s h.cursor now tag reading) f in finish_foretold z.0 z.1 (set_placed tag reading)

    -- ---- a tag is cleared, `more` records to come after it
    -- its block, if it closes
    abbrev tag_closes : ℕ → ℕ → Bool
    tag_closes tag y = eqb y (tag_block h f tag) && closes h f (tag_block h f tag)

    module _ (tag : ℕ) (d : f (Dir tag) ≢ 0) (more : ℕ) (one : more ≤ 1) (bad : unsound_clear h f more tag ≡ false) where
      abbrev n : ℕ
      n = tag_block h f tag

      abbrev k : ℕ
      k = slot_of s (f (Dir tag))

      -- the memory with its record ended and the directory's word forgotten
      abbrev ended : Memory
      ended = put (run_on (end_record n k now) f).1 (Dir tag) 0

      low : 1 ≤ N
      low = (lies h sound f tag d more bad).some

      slot_low : k < 64
      slot_low = omega (arith, (lies h sound f tag d more bad).slot, sound.within.most)

      ended_closed : (m : ℕ) → closed_of ended m ≡ closed_of f m
      unfolding end_record
      ended_closed m = refl

      ended_here : block_bits ended n ≡ lowered (block_bits f n) k
      unfolding end_record
      ended_here = bit_lowered f n k slot_low

      ended_other : (m : ℕ) → m ≢ n → block_bits ended m ≡ block_bits f m
      unfolding end_record
      ended_other m e = bit_elsewhere without_bit f n k m e

      -- the acceptor's bits are those that the test looks at
      ended_last : block_bits ended N ≡ after_clear h f tag
      ended_last = is? n N
          (λ e. simp (eq-eqb n N e) (subst (λ (m : ℕ). block_bits ended m ≡ lowered (block_bits f m) k) e ended_here))
          (λ e. simp (ne_eqb n N e) (ended_other N (λ w. e (sym w))))

      -- whether its block closes
      few_left : too_few s (block_bits ended n) ≡ ltb (remaining h f n) s.useful
      few_left = ap (too_few s) ended_here ∙ ap (λ (m : ℕ). ltb m s.useful) (fewer h sound f tag d more bad)

      abbrev Cleared : ℕ → Cursor → Memory → Type 0
      Cleared m e g = Tracked (tag_closes tag) (after_clear h f tag) (copies h f n + more) m e g

      -- no block closed
      stays : closes h f n ≡ false → Cleared more h.cursor ended
      stays c =
          let none : copies h f n ≡ 0 = rw c in
          before (record {
            opened = refl;
            fill = omega arith;
            fits = sound.fill;
            bits = ap (λ (b : Standing). too_few s (taken_up b h.cursor.fill room)) ended_last;
            closed = λ m. ended_closed m ∙ sym (simp (c, and-false));
          })

      -- its block closes: the records that it hands on come one after another
      copy_step : n < N → (j : ℕ) (l : List ℕ) (c : Cursor) (g : Memory)
          → (length (j ∷ l) + more ≤ s.useful) × Cleared (length (j ∷ l) + more) c g
          → let z = run_on (replace s n now j c) g in (length l + more ≤ s.useful) × Cleared (length l + more) z.0 z.1
      copy_step inner j l c g p =
          let next : length (j ∷ l) + more ≡ length l + more + 1 = omega arith in
          (omega (arith, p.0), replace_along sound.within low c g n j inner (omega (arith, p.0)) (subst (λ (m : ℕ). Cleared m c g) next p.1))

      closes_now : n ≢ N → remaining h f n < s.useful → let z = run_on (close s h.cursor n now (slots (block_bits ended n))) ended in Cleared more z.0 z.1
      unfolding close
      closes_now apart few =
          let inner : n < N = omega (arith, (lies h sound f tag d more bad).high) in
          let l = slots (block_bits ended n) in
          let u = run_on (unlink h.cursor n now) ended in
          let w = unlink_shuts h.cursor n now ended in
          let c : closes h f n ≡ true = simp (ne_eqb n N apart, lt-ltb (remaining h f n) s.useful few) in
          let all : length l ≡ copies h f n = ap (λ (b : Standing). length (slots b)) ended_here ∙ fewer h sound f tag d more bad ∙ sym (simp c) in
          let most = copies_few h sound f tag d more bad one in
          let z = each_walk (λ (r : List ℕ) (e : Cursor) (g : Memory). (length r + more ≤ s.useful) × Cleared (length r + more) e g) (replace s n now)
          (copy_step inner) l u.0 u.1 (
            omega (arith, all),
            before (record {
              opened = w.opened;
              fill = omega (arith, w.fill, all);
              fits = omega (arith, w.fill, sound.fill);
              bits = ap (λ (b : Standing). too_few s (taken_up b u.0.fill (s.block - u.0.fill))) (w.bits N ∙ ended_last)
                  ∙ ap (λ (m : ℕ). too_few s (taken_up (after_clear h f tag) m (s.block - m))) w.fill;
              closed = λ m.
                  let same : eqb n m ≡ (eqb m n && closes h f n) = eqb_turn n m ∙ sym (simp (c, and-true)) in
                  w.closed m ∙ ap (λ (v : ℕ). cond (eqb n m) now v) (ended_closed m) ∙ ap (λ (b : Bool). cond b now (closed_of f m)) same;
            }),
          ) in
          let y = run_on (close s h.cursor n now l) ended in
          subst (λ (m : ℕ). Cleared m y.0 y.1) (zero-add more) z.1

      judged : n ≢ N → let z = run_on (judge s h.cursor n now) ended in Cleared more z.0 z.1
      unfolding judge standing
      judged apart =
          cond_all (λ (z : Cursor × Memory). Cleared more z.0 z.1) (too_few s (block_bits ended n))
          (λ t. closes_now apart (ltb-true (remaining h f n) s.useful (sym few_left ∙ t)))
          (λ t. stays (simp (ne_eqb n N apart, sym few_left ∙ t)))

      cleared : let z = run_on (clear_tag s h.cursor now tag) f in Cleared more z.0 z.1
      unfolding clear_tag
      cleared =
          cond_all (λ (z : Cursor × Memory). Cleared more z.0 z.1) (eqb n N)
          (λ t. stays (simp t))
          (λ t. judged (eqb-false n N t))

    pub clear_foretold : (tag : ℕ) → f (Dir tag) ≢ 0 → unsound_clear h f 0 tag ≡ false
        → Foretold h f now (incoming_clear h f 0 tag) (clear_closes h f 0 tag) (run_on (clear_program s h.cursor now tag) f)
    unfolding clear_program
    clear_foretold tag d bad =
        let z = run_on (clear_tag s h.cursor now tag) f in
        finish_foretold z.0 z.1 (tracked_foretold (tag_closes tag) (after_clear h f tag) (incoming_clear h f 0 tag) z.0 z.1
        (low tag d 0 (omega arith) bad) (cleared tag d 0 (omega arith) bad))

    pub update_foretold : (tag reading : ℕ) → f (Dir tag) ≢ 0 → unsound_clear h f 1 tag ≡ false
        → Foretold h f now (incoming_clear h f 1 tag) (clear_closes h f 1 tag) (run_on (update_program s h.cursor now tag reading) f)
    unfolding update_program
    update_foretold tag reading d bad =
        let y = run_on (clear_tag s h.cursor now tag) f in
        let z = run_on (place s y.0 now tag reading) y.1 in
        let l = low tag d 1 (omega arith) bad in
        finish_foretold z.0 z.1 (tracked_foretold (tag_closes tag) (after_clear h f tag) (incoming_clear h f 1 tag) z.0 z.1 l
        (place_along sound.within l {m = 0} y.0 y.1 tag reading sound.within.some (cleared tag d 1 (omega arith) bad)))
