-- A block other than the acceptor is judged, and a tag is cleared: where the block that closes is sound and the acceptor is ready for its copies, all of
-- this goes well, and the acceptor is ready for what comes after.
use Rattle.std.specs.Prelude.{◌≡◌, ◌≢◌, true, cond, List, ◌∷◌, ℕ, ◌+◌, ◌-◌, ◌≤◌, ◌<◌, eqb}
use Rattle.std.proofs.Common.{ap, sym, ◌∙◌, zero-add}
use Rattle.std.proofs.Math.Path.{subst}
use native.Mathlib.Omega.{arith}
use Rattle.std.proofs.Math.ListN.{length}
use borrow.Author.Tests.{eqb-true, eqb-false, ltb-true, ltb-false}
use Rattle.base.specs.Branch.{is?, cond_all}
use Rattle.base.specs.Sums.{All}
use Rattle.layout.specs.declared.settings.Settings.{Settings}
use Rattle.layout.specs.declared.head.Cursor.{Cursor}
use Rattle.layout.specs.declared.standing.Standing.{Standing}
use Rattle.layout.specs.declared.address.Address.TheVariants.{Dir, Field}
use Rattle.layout.specs.Fields.{up_word, right_word}
use Rattle.layout.specs.Settings.{Within}
use Rattle.layout.specs.Address.{Numbered}
use Rattle.layout.specs.Memory.{Memory, put}
use Rattle.layout.specs.Standing.{slots, stands, lowered, block_bits}
use Rattle.calls.specs.Placing.{block_of, slot_of, replace, close, judge, clear_tag}
use Rattle.calls.specs.Refusals.{taken_up}
use Rattle.safety.specs.Goes.{Goes, goes_get, goes_set, goes_ret, goes_on, goes_when, goes_each, goes_so}
use Rattle.safety.specs.Sound.{Movable, Sound, sound_slots, sound_in, all_first, all_others, lowered_stood, Between}
use Rattle.safety.specs.Parts.{Ended, Unlinked, end_goes, move_goes, goes_standing, unlink_goes}
use Rattle.safety.specs.Room.{RoomFor, still_movable, room_goes, put_ready}

-- the slots l of block x are still to be placed, and `more` records after them
record Emptying (s : Settings) (x more : ℕ) (l : List ℕ) (c : Cursor) (g : Memory) : Type 0 where
  ready : RoomFor s g (length l + more) c.opened c.fill
  inner : x < c.opened
  rest : All (Movable s g x) l

-- block x may close, with `more` records to come after its copies
pub record MayClose (s : Settings) (f : Memory) (c : Cursor) (x more : ℕ) : Type 0 where
  pub sound : Sound s f x
  pub right : Between x (f (Field x right_word)) c.opened
  pub ready : RoomFor s f (length (slots (block_bits f x)) + more) c.opened c.fill

-- an acceptor that is ready stays so where a block below it leaves the row
unlinked_ready : {s : Settings} {f g : Memory} {c d : Cursor} {x m : ℕ} → Unlinked f c x d g → f (Field x up_word) < x → x < c.opened
    → RoomFor s f m c.opened c.fill → RoomFor s g m d.opened d.fill
unlinked_ready {s} {f} {g} {c} {d} {x} u below inner i =
    let N = c.opened in
    rw (u.opened, u.fill) (record {
      limit = i.limit;
      fits = i.fits;
      none = i.none;
      some = i.some;
      few = i.few;
      left = i.left;
      sound = λ e a short.
          let w = i.sound e a (subst (λ (b : Standing). length (slots (taken_up b c.fill (s.block - c.fill))) < s.useful) (u.bits N) short) in
          let up : cond (eqb (f (Field x right_word)) N) (f (Field x up_word)) (f (Field N up_word)) < N =
          cond_all (λ n. n < N) (eqb (f (Field x right_word)) N) (λ t. omega arith) (λ t. w.up) in
          sound_in (rw (u.ups N) up) (u.tags N) (λ k t. ap (λ (b : Standing). stands b k) (sym (u.bits N)) ∙ t) w;
    })

-- a block that is sound stays so where a record ends
pub ended_sound : {s : Settings} {f g : Memory} {n k m : ℕ} → Ended f n k g → Sound s f m → Sound s g m
ended_sound {f = f} {g} {n} {k} {m} e i = sound_in (rw (e.fields m up_word) i.up) (e.tags m) stood i
  where
    stood : (j : ℕ) → stands (block_bits g m) j ≡ true → stands (block_bits f m) j ≡ true
    stood j t = is? m n
        (λ u. lowered_stood (block_bits f m) k j (ap (λ (b : Standing). stands b j) (rw u (sym e.here)) ∙ t))
        (λ u. ap (λ (b : Standing). stands b j) (sym (e.elsewhere m u)) ∙ t)

-- A tag's record lies in slot k of block n, one of those opened. With it ended the acceptor is ready if n is the acceptor; else n may close if fewer
-- than q remain, and the acceptor is ready if not.
pub record Clearable (s : Settings) (f : Memory) (c : Cursor) (n k more : ℕ) : Type 0 where
  pub high : n ≤ c.opened
  pub slot : k < s.block
  pub acceptor : (g : Memory) → Ended f n k g → n ≡ c.opened → RoomFor s g more c.opened c.fill
  pub closes : (g : Memory) → Ended f n k g → n ≢ c.opened → length (slots (lowered (block_bits f n) k)) < s.useful → MayClose s g c n more
  pub stays : (g : Memory) → Ended f n k g → n ≢ c.opened → s.useful ≤ length (slots (lowered (block_bits f n) k))
      → RoomFor s g more c.opened c.fill

module _ (s : Settings) (z : Within s) where
  -- ---- a copy goes where any record goes
  emptying_step : {x more : ℕ} (now : ℕ) → 1 ≤ x → (k : ℕ) (l : List ℕ) (c : Cursor) (g : Memory) → Emptying s x more (k ∷ l) c g
      → Goes s (replace s x now k c) g (Emptying s x more l)
  unfolding replace
  emptying_step {x} {more} now low k l c g i =
      let next : length (k ∷ l) + more ≡ length l + more + 1 = omega arith in
      let r : RoomFor s g (length l + more + 1) c.opened c.fill = subst (λ (m : ℕ). RoomFor s g m c.opened c.fill) next i.ready in
      goes_on (room_goes s z c g now r (omega arith)) (λ d h w.
      let nn : Numbered s d.opened = record { low = w.low; high = w.ready.limit } in
      let below : x < d.opened = omega (arith, i.inner, w.grows) in
      let nx : Numbered s x = record { low = low; high = omega (arith, nn.high) } in
      let apart : x ≢ d.opened = λ e. omega arith in
      let all = still_movable (λ j. w.tags x j (omega (arith, i.inner))) i.rest in
      let m = all_first all in
      goes_so (move_goes s z d h x now k nx m apart nn w.room) (λ e h' p. record {
        ready = put_ready s z w.ready w.low w.room m.tag p;
        inner = omega (arith, p.opened);
        rest = still_movable (λ j. p.tags x j apart) (all_others all);
      }))

  -- ---- a block other than the acceptor closes
  close_goes : {more : ℕ} (c : Cursor) (f : Memory) (x now : ℕ) → 1 ≤ x → x < c.opened → MayClose s f c x more
      → Goes s (close s c x now (slots (block_bits f x))) f (λ d g. RoomFor s g more d.opened d.fill)
  unfolding close
  close_goes {more} c f x now low inner i =
      let b = i.right in
      let nx : Numbered s x = record { low = low; high = omega (arith, i.ready.limit) } in
      let nr : Numbered s (f (Field x right_word)) = record { low = omega (arith, b.above); high = omega (arith, b.most, i.ready.limit) } in
      goes_on (unlink_goes s z c f x now nx i.sound.up nr) (λ d g u.
      goes_so (goes_each (replace s x now) (Emptying s x more) (emptying_step now low) (slots (block_bits f x)) d g (record {
        ready = unlinked_ready u i.sound.up inner i.ready;
        inner = omega (arith, u.opened);
        rest = still_movable (u.tags x) (sound_slots i.sound);
      })) (λ e h w. subst (λ (m : ℕ). RoomFor s h m e.opened e.fill) (zero-add more) w.ready))

  judge_goes : {more : ℕ} (c : Cursor) (f : Memory) (x now : ℕ) → 1 ≤ x → x < c.opened → c.opened ≤ s.blocks
      → (length (slots (block_bits f x)) < s.useful → MayClose s f c x more)
      → (s.useful ≤ length (slots (block_bits f x)) → RoomFor s f more c.opened c.fill)
      → Goes s (judge s c x now) f (λ d g. RoomFor s g more d.opened d.fill)
  unfolding judge
  judge_goes {more} c f x now low inner limit i j =
      let nx : Numbered s x = record { low = low; high = omega arith } in
      let l = slots (block_bits f x) in
      goes_standing s z x nx (goes_when
      (λ t. close_goes c f x now low inner (i (ltb-true (length l) s.useful t)))
      (λ t. goes_ret (j (ltb-false (length l) s.useful t))))

  -- ---- a tag is cleared
  pub clear_goes : {more : ℕ} (c : Cursor) (f : Memory) (now tag : ℕ) → tag < s.tags → c.opened ≤ s.blocks
      → Clearable s f c (block_of s (f (Dir tag))) (slot_of s (f (Dir tag))) more
      → Goes s (clear_tag s c now tag) f (λ d g. RoomFor s g more d.opened d.fill)
  unfolding clear_tag
  clear_goes {more} c f now tag known limit i =
      let n = block_of s (f (Dir tag)) in
      let k = slot_of s (f (Dir tag)) in
      let low : 1 ≤ n = omega arith in
      let nn : Numbered s n = record { low = low; high = omega (arith, i.high) } in
      goes_get known (goes_on (end_goes s z n k now f nn i.slot) (λ x g e.
      let w : Ended f n k (put g (Dir tag) 0) = record { tags = e.tags; fields = e.fields; here = e.here; elsewhere = e.elsewhere } in
      goes_set known (goes_when
      (λ t. goes_ret (i.acceptor _ w (eqb-true n c.opened t)))
      (λ t.
      let apart = eqb-false n c.opened t in
      judge_goes c _ n now low (omega (arith, i.high)) limit
      (λ a. i.closes _ w apart (subst (λ (b : Standing). length (slots b) < s.useful) w.here a))
      (λ a. i.stays _ w apart (subst (λ (b : Standing). s.useful ≤ length (slots b)) w.here a))))))
