-- What the tests of a change say when they do not apply: the acceptor is ready for the records that come (refusals 12 and 13), a tag's record lies in a
-- block opened, and that block may close if it will.
use Rattle.std.specs.Prelude.{◌≡◌, ◌≢◌, Bool, true, false, cond, not, ◌&&◌, ◌||◌, ℕ, ◌+◌, ◌-◌, ◌≤◌, ◌<◌, eqb, ltb, length}
use Rattle.std.proofs.Math.Path.{refl}
use Rattle.std.proofs.Common.{ap, sym, ◌∙◌, subst, arith, zero-add}
use borrow.Author.Tests.{eqb-false, eq-eqb, ne_eqb, ltb-true, ltb-false, lt-ltb, le-ltb, not-false}
use Rattle.base.specs.Branch.{is?, cond_all, or-false, and-true, and_is}
use Rattle.layout.specs.declared.settings.Settings.{Settings}
use Rattle.layout.specs.declared.head.Head.{Head}
use Rattle.layout.specs.declared.standing.Standing.{Standing}
use Rattle.layout.specs.declared.address.Address.TheVariants.{Dir, Field, Slot}
use Rattle.layout.specs.Fields.{right_word, tag_word}
use Rattle.layout.specs.Memory.{Memory}
use Rattle.layout.specs.Head.{placed}
use Rattle.layout.specs.HeadLaws.{SoundHead}
use Rattle.layout.specs.Spot.{Lies, place_lies}
use Rattle.layout.specs.Standing.{slots, stands, lowered, block_bits}
use Rattle.layout.specs.StandingLaws.{lowered_fewer}
use Rattle.calls.specs.Placing.{slot_of}
use Rattle.calls.specs.Refusals.{opens, taken_up, acceptor_closes, tag_block, remaining, closes, copies, after_clear, bad_place, bad_block, unsound_set, unsound_clear, blocks_out}
use Rattle.safety.specs.Sound.{Sound, Between, found_sound, found_right}
use Rattle.safety.specs.Parts.{Ended}
use Rattle.safety.specs.Room.{RoomFor}
use Rattle.safety.specs.Leaving.{Clearable, ended_sound}

-- a false `&&` whose first test is true, and a `||` whose last is
and_rest : {a b : Bool} → (a && b) ≡ false → a ≡ true → b ≡ false
and_rest e t = rw t at e

or_last : (a : Bool) → (a || true) ≡ true
or_last true = refl
or_last false = refl

module _ (h : Head) (sound : SoundHead h) where
  abbrev s : Settings
  s = h.settings

  -- records that have no room open a block
  opens_over : (m : ℕ) → s.block < h.cursor.fill + m → opens h m ≡ true
  opens_over m over = simp (lt-ltb 0 m (omega (arith, sound.fill)), lt-ltb s.block (h.cursor.fill + m) over, or_last)

  left_over : (m : ℕ) → blocks_out h m ≡ false → s.block < h.cursor.fill + m → h.cursor.opened < s.blocks
  unfolding blocks_out
  left_over m out over =
      let e = and_rest {a = opens h m} out (opens_over m over) in
      omega (arith, eqb-false h.cursor.opened s.blocks e, sound.opened)

  -- The acceptor is ready for m records in a memory g in which its standing bits are a, those that the test looked at, and in which it is sound if the
  -- words as found say so.
  pub ready_for : {m : ℕ} (f : Memory) (a : Standing) → m ≤ s.useful → blocks_out h m ≡ false
      → (acceptor_closes h a m && bad_block h f h.cursor.opened) ≡ false → {g : Memory} → block_bits g h.cursor.opened ≡ a
      → (Sound s f h.cursor.opened → Sound s g h.cursor.opened) → RoomFor s g m h.cursor.opened h.cursor.fill
  ready_for {m} f a few out bad {g} bits keeps = record {
    limit = sound.opened;
    fits = sound.fill;
    none = sound.none;
    some = λ e. omega (arith, sound.some e);
    few = few;
    left = left_over m out;
    sound = λ over low short.
        let short' = subst (λ (b : Standing). length (slots (taken_up b h.cursor.fill (s.block - h.cursor.fill))) < s.useful) bits short in
        let last : not (eqb h.cursor.opened 0) ≡ true = rw (ne_eqb h.cursor.opened 0 (λ e. omega arith)) in
        let closing : acceptor_closes h a m ≡ true = and_is (opens_over m over) (and_is last (lt-ltb _ _ short')) in
        keeps (found_sound h f h.cursor.opened (and_rest bad closing));
  }

  pub set_ready : (f : Memory) → unsound_set h f ≡ false → blocks_out h 1 ≡ false → RoomFor s f 1 h.cursor.opened h.cursor.fill
  unfolding unsound_set
  set_ready f bad out = ready_for f (block_bits f h.cursor.opened) sound.within.some out bad refl (λ i. i)

-- ---- a tag is to be cleared, with `more` records to come after the copies of its block: what refusal 12 says when it does not apply
module _ (h : Head) (sound : SoundHead h) (f : Memory) (tag : ℕ) (d : f (Dir tag) ≢ 0) (more : ℕ) (bad : unsound_clear h f more tag ≡ false) where
  abbrev N : ℕ
  N = h.cursor.opened

  abbrev q : ℕ
  q = h.settings.useful

  abbrev n : ℕ
  n = tag_block h f tag

  abbrev k : ℕ
  k = slot_of h.settings (f (Dir tag))

  -- the three tests of refusal 12
  tests : ((bad_place h f tag || (closes h f n && bad_block h f n)) ≡ false)
      × ((acceptor_closes h (after_clear h f tag) (copies h f n + more) && bad_block h f N) ≡ false)
  unfolding unsound_clear
  tests = or-false (bad_place h f tag || (closes h f n && bad_block h f n)) _ bad

  not_block : (closes h f n && bad_block h f n) ≡ false
  not_block = (or-false (bad_place h f tag) _ tests.0).1

  pub good_place : (f (Dir tag) ≤ placed h) × (stands (block_bits f n) k ≡ true)
  unfolding bad_place
  good_place =
      let e = (or-false (bad_place h f tag) _ tests.0).0 in
      let u = or-false _ (not (stands (block_bits f n) k)) e in
      let w = or-false (ltb (placed h) (f (Dir tag))) (not (eqb (f (Slot n k tag_word)) tag)) u.0 in
      (ltb-false (placed h) (f (Dir tag)) w.0, not-false _ u.1)

  pub lies : Lies h (f (Dir tag))
  lies = place_lies h (f (Dir tag)) sound (omega arith) good_place.0

  -- one record fewer stands where the tag's has ended
  pub fewer : length (slots (lowered (block_bits f n) k)) ≡ remaining h f n
  fewer = omega (arith, lowered_fewer (block_bits f n) k (omega (arith, lies.slot, sound.within.most)) good_place.1)

  closes_few : n ≢ N → remaining h f n < q → closes h f n ≡ true
  closes_few apart few = simp (ne_eqb n N apart, lt-ltb (remaining h f n) q few)

  pub copies_few : more ≤ 1 → copies h f n + more ≤ q
  copies_few one = cond_all (λ m. m + more ≤ q) (closes h f n)
      (λ t. omega (arith, ltb-true (remaining h f n) q (and-true (not (eqb n N)) _ t).1))
      (λ t. omega (arith, sound.within.some))

  none_here : n ≡ N → copies h f n + more ≡ more
  none_here e = simp (eq-eqb n N e) (zero-add more)

  none_many : n ≢ N → q ≤ remaining h f n → copies h f n + more ≡ more
  none_many apart many = simp (ne_eqb n N apart, le-ltb (remaining h f n) q many) (zero-add more)

  -- with the tag's record ended the acceptor's bits are those that the test looked at; and with refusal 13 not applying it is ready
  module _ (one : more ≤ 1) (out : blocks_out h (copies h f n + more) ≡ false) (g : Memory) (e : Ended f n k g) where
    bits_after : block_bits g N ≡ after_clear h f tag
    bits_after = is? n N
        (λ u. simp (eq-eqb n N u) (rw u at e.here))
        (λ u. simp (ne_eqb n N u) (e.elsewhere N (λ w. u (sym w))))

    ready_after : RoomFor h.settings g (copies h f n + more) N h.cursor.fill
    ready_after = ready_for h sound f (after_clear h f tag) (copies_few one) out tests.1 bits_after (λ i. ended_sound e i)

  pub clearable : more ≤ 1 → blocks_out h (copies h f n + more) ≡ false → Clearable h.settings f h.cursor n k more
  clearable one out = record {
    high = lies.high;
    slot = lies.slot;
    acceptor = λ g e u. subst (λ (m : ℕ). RoomFor h.settings g m N h.cursor.fill) (none_here u) (ready_after one out g e);
    closes = λ g e apart short.
        let few : remaining h f n < q = subst (λ (m : ℕ). m < q) fewer short in
        let t = closes_few apart few in
        let good = and_rest not_block t in
        let moved : copies h f n + more ≡ length (slots (block_bits g n)) + more =
        ap (λ (y : Bool). cond y (remaining h f n) 0 + more) t ∙ ap (λ (m : ℕ). m + more) (sym fewer ∙ ap (λ (b : Standing). length (slots b)) (sym e.here)) in
        let right : Between n (g (Field n right_word)) N = rw (e.fields n right_word) (found_right h f n good apart) in
        record {
          sound = ended_sound e (found_sound h f n good);
          right = right;
          ready = subst (λ (m : ℕ). RoomFor h.settings g m N h.cursor.fill) moved (ready_after one out g e);
        };
    stays = λ g e apart many.
        subst (λ (m : ℕ). RoomFor h.settings g m N h.cursor.fill) (none_many apart (subst (λ (m : ℕ). q ≤ m) fewer many)) (ready_after one out g e);
  }
