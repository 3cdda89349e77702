-- Room for records: where m more are to come (RoomFor), the acceptor takes the next one, or block N + 1 opens and block N, if it then closes, is sound. At most
-- one block opens: the new one has room for block N's copies, fewer than q, and for the m ≤ q records.
use Rattle.std.specs.Prelude.{◌≡◌, ◌≢◌, true, List, ◌∷◌, ℕ, suc, ◌+◌, ◌-◌, ◌≤◌, ◌<◌, eqb}
use Rattle.std.proofs.Math.Path.{refl}
use Rattle.std.proofs.Common.{ap, sym, ◌∙◌, subst}
use native.Mathlib.Omega.{arith}
use Rattle.std.proofs.Math.ListN.{length}
use borrow.Author.Tests.{eqb-true, eqb-false, ne_eqb, ltb-true}
use Rattle.base.specs.Branch.{is?, or-false}
use Rattle.base.specs.Sums.{All, all_map}
use Rattle.layout.specs.declared.settings.Settings.{Settings}
use Rattle.layout.specs.declared.head.Cursor.{Cursor}
use Rattle.layout.specs.declared.standing.Standing.{Standing}
use Rattle.layout.specs.declared.address.Address.TheVariants.{Field, Slot}
use Rattle.layout.specs.Fields.{up_word, right_word, tag_word}
use Rattle.layout.specs.Settings.{Within}
use Rattle.layout.specs.Address.{Numbered}
use Rattle.layout.specs.Memory.{Memory}
use Rattle.layout.specs.Standing.{slots, stands, block_bits}
use Rattle.layout.specs.StandingLaws.{raised_other}
use Rattle.layout.specs.Payload.{new_payload}
use Rattle.calls.specs.Placing.{move_record, close_full, judge_full, roll, make_room, place}
use Rattle.calls.specs.Refusals.{taken_up}
use Rattle.safety.specs.Goes.{Goes, goes_ret, goes_on, goes_when, goes_each, goes_so}
use Rattle.safety.specs.Sound.{Movable, Sound, sound_slots, sound_in, all_first, all_others}
use Rattle.safety.specs.Parts.{RecordPut, put_goes, move_goes, goes_standing, unlink_goes, open_goes}

-- ---- m more records are to come, with n blocks opened and fill records in the last
pub record RoomFor (s : Settings) (f : Memory) (m n fill : ℕ) : Type 0 where
  -- no sum wraps: the cursor's bounds along the way
  pub limit : n ≤ s.blocks
  pub fits : fill ≤ s.block
  pub none : n ≡ 0 → fill ≡ 0
  pub some : 1 ≤ n → 1 ≤ fill + m
  pub few : m ≤ s.useful
  -- if they have no room, a block is left, and the acceptor is sound if it closes once its free slots are taken
  pub left : s.block < fill + m → n < s.blocks
  pub sound : s.block < fill + m → 1 ≤ n → length (slots (taken_up (block_bits f n) fill (s.block - fill))) < s.useful → Sound s f n

-- ---- block y has opened, and took the copies of the block before it
record Rolled (s : Settings) (f : Memory) (y : ℕ) (d : Cursor) (g : Memory) : Type 0 where
  opened : d.opened ≡ y
  fill : d.fill < s.useful
  tags : (n k : ℕ) → n ≢ y → g (Slot n k tag_word) ≡ f (Slot n k tag_word)

-- the acceptor has room for the next of m records
pub record Room (s : Settings) (f : Memory) (m : ℕ) (c d : Cursor) (g : Memory) : Type 0 where
  pub ready : RoomFor s g m d.opened d.fill
  pub low : 1 ≤ d.opened
  pub room : d.fill < s.block
  pub grows : c.opened ≤ d.opened
  pub tags : (n k : ℕ) → n ≤ c.opened → g (Slot n k tag_word) ≡ f (Slot n k tag_word)

-- the slots l of block x are still to go to block y, `total` with those that went
record Moving (s : Settings) (f : Memory) (x y total : ℕ) (l : List ℕ) (c : Cursor) (g : Memory) : Type 0 where
  opened : c.opened ≡ y
  fill : c.fill + length l ≡ total
  rest : All (Movable s g x) l
  tags : (n k : ℕ) → n ≢ y → g (Slot n k tag_word) ≡ f (Slot n k tag_word)

-- slots that may be moved, in a memory with the same tags
pub still_movable : {s : Settings} {f g : Memory} {x : ℕ} {l : List ℕ} → ((k : ℕ) → g (Slot x k tag_word) ≡ f (Slot x k tag_word)) → All (Movable s f x) l
    → All (Movable s g x) l
still_movable e a = all_map (λ k m. record { slot = m.slot; tag = rw (e k) m.tag }) a

-- an acceptor that is sound stays so with a record more
placed_sound : {s : Settings} {f g : Memory} {c d : Cursor} {tag : ℕ} → RecordPut f c tag d g → c.fill < s.block → tag < s.tags → Sound s f c.opened
    → Sound s g c.opened
placed_sound {s} {f} {g} {c} p room known i = record {
  up = rw (p.ups c.opened) i.up;
  moves = λ k h e. is? k c.fill
      (λ u. rw u (record { slot = room; tag = rw p.here known }))
      (λ u.
      let stood : stands (block_bits f c.opened) k ≡ true = sym (raised_other (block_bits f c.opened) c.fill k u) ∙ ap (λ (b : Standing). stands b k) (sym p.bits) ∙ e in
      let m = i.moves k h stood in
      record { slot = m.slot; tag = rw (p.slots k u) m.tag });
}

module _ (s : Settings) (z : Within s) where
  -- ---- the old acceptor is judged
  moving_step : (now : ℕ) {f : Memory} {x y total : ℕ} → total < s.block → Numbered s x → Numbered s y → x ≢ y → (k : ℕ) (l : List ℕ) (c : Cursor) (g : Memory)
      → Moving s f x y total (k ∷ l) c g → Goes s (move_record s x now k c) g (Moving s f x y total l)
  moving_step now {x = x} room nx ny apart k l c g i =
      let nc : Numbered s c.opened = rw i.opened ny in
      let free : c.fill < s.block = omega (arith, i.fill) in
      let away : x ≢ c.opened = λ e. apart (e ∙ i.opened) in
      goes_so (move_goes s z c g x now k nx (all_first i.rest) away nc free) (λ d g' p. record {
        opened = p.opened ∙ i.opened;
        fill = omega (arith, p.fill, i.fill);
        rest = still_movable (λ j. p.tags x j away) (all_others i.rest);
        tags = λ n j u. p.tags n j (λ e. u (e ∙ i.opened)) ∙ i.tags n j u;
      })

  -- block x, with its right x + 1, closes; its slots l stood
  full_goes : (c : Cursor) (f : Memory) (x now : ℕ) (l : List ℕ) → c.opened ≡ x + 1 → c.fill ≡ 0 → 1 ≤ x → x < s.blocks → f (Field x right_word) ≡ x + 1
      → f (Field x up_word) < x → All (Movable s f x) l → length l < s.useful → Goes s (close_full s c x now l) f (Rolled s f (x + 1))
  unfolding close_full
  full_goes c f x now l o e low left r below a short =
      let nx : Numbered s x = record { low = low; high = omega arith } in
      let ny : Numbered s (x + 1) = record { low = omega arith; high = omega arith } in
      let nr : Numbered s (f (Field x right_word)) = rw r ny in
      let apart : x ≢ x + 1 = λ u. omega arith in
      let fits : length l < s.block = omega (arith, z.half) in
      goes_on (unlink_goes s z c f x now nx below nr) (λ d g u.
      goes_so (goes_each (move_record s x now) (Moving s f x (x + 1) (length l)) (moving_step now fits nx ny apart) l d g (record {
        opened = u.opened ∙ o;
        fill = omega (arith, u.fill);
        rest = still_movable (u.tags x) a;
        tags = λ n k w. u.tags n k;
      })) (λ d' g' i. record { opened = i.opened; fill = omega (arith, i.fill); tags = i.tags }))

  judge_full_goes : (c : Cursor) (f : Memory) (x now : ℕ) → c.opened ≡ x + 1 → c.fill ≡ 0 → 1 ≤ x → x < s.blocks → f (Field x right_word) ≡ x + 1
      → (length (slots (block_bits f x)) < s.useful → Sound s f x) → Goes s (judge_full s c x now) f (Rolled s f (x + 1))
  unfolding judge_full
  judge_full_goes c f x now o e low left r i =
      let nx : Numbered s x = record { low = low; high = omega arith } in
      let l = slots (block_bits f x) in
      goes_standing s z x nx (goes_when
      (λ t.
      let short = ltb-true (length l) s.useful t in
      let w = i short in
      full_goes c f x now l o e low left r w.up (sound_slots w) short)
      (λ t. goes_ret (record { opened = o; fill = omega (arith, z.some); tags = λ n k u. refl })))

  -- ---- block N + 1 opens, and block N, if any, is judged
  roll_goes : (c : Cursor) (f : Memory) (now : ℕ) → c.opened < s.blocks
      → (1 ≤ c.opened → length (slots (block_bits f c.opened)) < s.useful → Sound s f c.opened) → Goes s (roll s c now) f (Rolled s f (c.opened + 1))
  unfolding roll
  roll_goes c f now left i =
      let N = c.opened in
      let old : N ≢ N + 1 = λ u. omega arith in
      goes_on (open_goes s z c f now left) (λ d g o. goes_when
      (λ t. goes_ret (record { opened = o.opened; fill = omega (arith, o.fill, z.some); tags = o.tags }))
      (λ t.
      let low : 1 ≤ N = omega (arith, eqb-false N 0 t) in
      goes_so (judge_full_goes d g N now o.opened o.fill low left (o.right low) (λ short.
      let w = i low (subst (λ (b : Standing). length (slots b) < s.useful) (o.bits N old) short) in
      sound_in (rw (o.ups N old) w.up) (λ k. o.tags N k old) (λ k e. rw (o.bits N old) at e) w))
      (λ d' g' r. record { opened = r.opened; fill = r.fill; tags = λ n k u. r.tags n k u ∙ o.tags n k u })))

  -- ---- room for a record that comes, the first of m
  pub room_goes : {m : ℕ} (c : Cursor) (f : Memory) (now : ℕ) → RoomFor s f m c.opened c.fill → 1 ≤ m → Goes s (make_room s c now) f (Room s f m c)
  unfolding make_room
  room_goes {m} c f now i comes =
      let N = c.opened in
      goes_when
      (λ t.
      let full : N ≢ 0 → c.fill ≡ s.block = λ d. eqb-true c.fill s.block (rw (ne_eqb N 0 d) at t) in
      let left : N < s.blocks = is? N 0 (λ e. omega (arith, z.one_block)) (λ d. i.left (omega (arith, full d, comes))) in
      goes_so (roll_goes c f now left (λ low short.
      let e = full (λ w. omega arith) in
      let none : s.block - c.fill ≡ 0 = omega arith in
      i.sound (omega arith) low (rw none short)))
      (λ d g r.
      let fill = r.fill in
      record {
        ready = record {
          limit = omega (arith, r.opened);
          fits = omega (arith, z.half);
          none = λ e. absurd (omega (arith, r.opened));
          some = λ e. omega arith;
          few = i.few;
          left = λ e. absurd (omega (arith, i.few, z.half));
          sound = λ e. absurd (omega (arith, i.few, z.half));
        };
        low = omega (arith, r.opened);
        room = omega (arith, z.half);
        grows = omega (arith, r.opened);
        tags = λ n k u. r.tags n k (λ e. omega arith);
      }))
      (λ t.
      let u = or-false (eqb N 0) (eqb c.fill s.block) t in
      goes_ret (record {
        ready = i;
        low = omega (arith, eqb-false N 0 u.0);
        room = omega (arith, eqb-false c.fill s.block u.1, i.fits);
        grows = omega arith;
        tags = λ n k w. refl;
      }))

  -- ---- the record goes there
  pub put_ready : {f g : Memory} {m tag : ℕ} {c d : Cursor} → RoomFor s f (m + 1) c.opened c.fill → 1 ≤ c.opened → c.fill < s.block → tag < s.tags
      → RecordPut f c tag d g → RoomFor s g m d.opened d.fill
  put_ready {f} {g} {m} {tag} {c} {d} i low room known p =
      let N = c.opened in
      let more : s.block - c.fill ≡ suc (s.block - (c.fill + 1)) = omega arith in
      let bits : taken_up (block_bits g N) (c.fill + 1) (s.block - (c.fill + 1)) ≡ taken_up (block_bits f N) c.fill (s.block - c.fill) =
      ap (λ (b : Standing). taken_up b (c.fill + 1) (s.block - (c.fill + 1))) p.bits ∙ sym (ap (taken_up (block_bits f N) c.fill) more) in
      rw (p.opened, p.fill) (record {
        limit = i.limit;
        fits = omega arith;
        none = λ e. absurd (omega arith);
        some = λ e. omega arith;
        few = omega (arith, i.few);
        left = λ e. i.left (omega arith);
        sound = λ e a short. placed_sound p room known (i.sound (omega arith) a (subst (λ (b : Standing). length (slots b) < s.useful) bits short));
      })

  -- ---- a record is placed, of m + 1 to come
  pub place_goes : {m : ℕ} (c : Cursor) (f : Memory) (now tag reading : ℕ) → RoomFor s f (m + 1) c.opened c.fill → tag < s.tags
      → Goes s (place s c now tag reading) f (λ d g. RoomFor s g m d.opened d.fill)
  unfolding place
  place_goes {m} c f now tag reading i known =
      goes_on (room_goes c f now i (omega arith)) (λ d g r.
      let nn : Numbered s d.opened = record { low = r.low; high = r.ready.limit } in
      goes_so (put_goes s z d g now tag (new_payload reading now) nn r.room known) (λ e h p. put_ready r.ready r.low r.room known p))
