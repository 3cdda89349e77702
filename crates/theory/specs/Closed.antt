-- THE CLOSED WORDS ALONG A CHANGE, on any memory. Records come one after another (Along): as long as the acceptor has room no block opens and no closed word
-- changes (Before); once it has none, block N + 1 opens, open itself, and the old acceptor closes exactly if fewer than q stood in it with its free
-- slots taken; then there is room for all that still come (After).
use Rattle.std.specs.Prelude.{◌≡◌, ◌≢◌, Bool, ◌&&◌, List, ◌∷◌, ltb, length}
use Rattle.std.proofs.Math.Path.{refl, ap, subst}
use Rattle.std.proofs.Common.{sym, ◌∙◌}
use Rattle.std.proofs.Math.Bool.{false, cond, and-true, and-false}
use Prim.Native.Nat.{ℕ, suc, ◌+◌, ◌*◌, ◌-◌, ◌≤◌, ◌<◌}
use native.Mathlib.Omega.{arith}
use Rattle.std.proofs.Math.Dec.{eqb}
use borrow.Author.Tests.{eqb-true, eqb-false, ne_eqb, ltb-true}
use Rattle.base.specs.Branch.{cond_all, eqb_same}
use Rattle.base.specs.Bits.{without_bit}
use Rattle.layout.specs.declared.settings.Settings.{Settings}
use Rattle.layout.specs.declared.head.Cursor.{Cursor}
use Rattle.layout.specs.declared.standing.Standing.{Standing}
use Rattle.layout.specs.declared.address.Address.TheVariants.{Field, Slot}
use Rattle.layout.specs.Sizes.{OPEN}
use Rattle.layout.specs.Fields.{closed_word, up_word, tag_word}
use Rattle.layout.specs.Settings.{Within}
use Rattle.layout.specs.Memory.{Memory}
use Rattle.layout.specs.Program.{run_on}
use Rattle.layout.specs.Standing.{slots, raised, block_bits}
use Rattle.layout.specs.declared.payload.Payload.{Payload}
use Rattle.layout.specs.Payload.{new_payload, payload_at}
use Rattle.calls.specs.Placing.{enter_time, open_block, unlink, end_record, standing, put_record, move_record, close_full, judge_full, roll, make_room, place, replace}
use Rattle.calls.specs.Refusals.{taken_up}
use Rattle.safety.specs.Sound.{bit_raised, bit_elsewhere}
use Rattle.theory.specs.RunLaws.{each_walk}
use Rattle.theory.specs.Effects.{enter_keeps, open_marks_other}
use Rattle.theory.specs.State.{open_cursor}

abbrev pub closed_of : Memory → ℕ → ℕ
closed_of f n = f (Field n closed_word)

-- fewer than q stand
abbrev pub too_few : Settings → Standing → Bool
too_few s b = ltb (length (slots b)) s.useful

-- ---- block x leaves the row
pub record Shut (f : Memory) (c : Cursor) (x now : ℕ) (d : Cursor) (g : Memory) : Type 0 where
  pub opened : d.opened ≡ c.opened
  pub fill : d.fill ≡ c.fill
  pub closed : (n : ℕ) → closed_of g n ≡ cond (eqb x n) now (closed_of f n)
  pub bits : (n : ℕ) → block_bits g n ≡ block_bits f n

pub unlink_shuts : (c : Cursor) (x now : ℕ) (f : Memory) → let z = run_on (unlink c x now) f in Shut f c x now z.0 z.1
unfolding unlink
unlink_shuts c x now f =
    cond_all (λ (z : Cursor × Memory). Shut f c x now z.0 z.1) (eqb (f (Field x up_word)) 0)
    (λ t. record { opened = refl; fill = refl; closed = λ n. refl; bits = λ n. refl })
    (λ t. record { opened = refl; fill = refl; closed = λ n. refl; bits = λ n. refl })

-- ---- block N + 1 opens
pub record Grown (f : Memory) (c d : Cursor) (g : Memory) : Type 0 where
  pub opened : d.opened ≡ c.opened + 1
  pub fill : d.fill ≡ 0
  pub closed : (n : ℕ) → n ≢ c.opened + 1 → closed_of g n ≡ closed_of f n
  pub bits : (n : ℕ) → n ≢ c.opened + 1 → block_bits g n ≡ block_bits f n
  pub new : closed_of g (c.opened + 1) ≡ OPEN

pub open_grows : (c : Cursor) (now : ℕ) (f : Memory) → let z = run_on (open_block c now) f in Grown f c z.0 z.1
unfolding open_block
open_grows c now f =
    let N = c.opened in
    let old : (n : ℕ) → n ≢ N + 1 → eqb (N + 1) n ≡ false = λ n d. ne_eqb (N + 1) n (λ e. d (sym e)) in
    let kept : (n : ℕ) → (run_on (enter_time N now) f).1 (Field n closed_word) ≡ closed_of f n = λ n. enter_keeps N now f (Field n closed_word) refl in
    record {
      opened = (open_cursor c now f).0;
      fill = (open_cursor c now f).1;
      closed = λ n d. cond_all (λ (z : Cursor × Memory). closed_of z.1 n ≡ closed_of f n) (eqb N 0) (λ t. simp (old n d) (kept n)) (λ t. simp (old n d) (kept n));
      bits = λ n d k. record { low = open_marks_other c now f n 0 d k; high = open_marks_other c now f n 1 d k };
      new = cond_all (λ (z : Cursor × Memory). closed_of z.1 (N + 1) ≡ OPEN) (eqb N 0) (λ t. simp eqb_same) (λ t. simp eqb_same);
    }

-- ---- the old acceptor is judged: its slots go to the new block
record Emptied (g₀ : Memory) (y total : ℕ) (l : List ℕ) (c : Cursor) (g : Memory) : Type 0 where
  opened : c.opened ≡ y
  fill : c.fill + length l ≡ total
  closed : (n : ℕ) → closed_of g n ≡ closed_of g₀ n

module _ (s : Settings) where
  move_emptied : (x now : ℕ) {g₀ : Memory} {y total : ℕ} (k : ℕ) (l : List ℕ) (c : Cursor) (g : Memory) → Emptied g₀ y total (k ∷ l) c g
      → let z = run_on (move_record s x now k c) g in Emptied g₀ y total l z.0 z.1
  unfolding move_record end_record put_record
  move_emptied x now k l c g i = record { opened = i.opened; fill = omega (arith, i.fill); closed = i.closed }

  -- with fewer than q standing it closes
  record Judged (f : Memory) (x now y : ℕ) (d : Cursor) (g : Memory) : Type 0 where
    opened : d.opened ≡ y
    fill : d.fill < s.useful
    closed : (n : ℕ) → closed_of g n ≡ cond (eqb x n && too_few s (block_bits f x)) now (closed_of f n)

  judge_full_closed : (c : Cursor) (x now : ℕ) (f : Memory) → c.fill ≡ 0 → 1 ≤ s.useful
      → let z = run_on (judge_full s c x now) f in Judged f x now c.opened z.0 z.1
  unfolding judge_full standing close_full
  judge_full_closed c x now f e some =
      let l = slots (block_bits f x) in
      let u = run_on (unlink c x now) f in
      let w = unlink_shuts c x now f in
      let m = each_walk (Emptied u.1 c.opened (length l)) (move_record s x now) (move_emptied x now) l u.0 u.1
      (record { opened = w.opened; fill = omega (arith, w.fill); closed = λ n. refl }) in
      cond_all (λ (z : Cursor × Memory). Judged f x now c.opened z.0 z.1) (too_few s (block_bits f x))
      (λ t. record {
        opened = m.opened;
        fill = omega (arith, m.fill, ltb-true (length l) s.useful t);
        closed = λ n. m.closed n ∙ w.closed n ∙ simp (t, and-true);
      })
      (λ t. record { opened = refl; fill = omega arith; closed = λ n. simp (t, and-false) })

  -- block N + 1 opens, and block N is judged
  record Rolled (f : Memory) (N now : ℕ) (d : Cursor) (g : Memory) : Type 0 where
    opened : d.opened ≡ N + 1
    fill : d.fill < s.useful
    closed : (n : ℕ) → n ≢ N + 1 → closed_of g n ≡ cond (eqb N n && too_few s (block_bits f N)) now (closed_of f n)
    new : closed_of g (N + 1) ≡ OPEN

  roll_closed : (c : Cursor) (now : ℕ) (f : Memory) → 1 ≤ c.opened → 1 ≤ s.useful
      → let z = run_on (roll s c now) f in Rolled f c.opened now z.0 z.1
  unfolding roll
  roll_closed c now f low some =
      let N = c.opened in
      let o = run_on (open_block c now) f in
      let w = open_grows c now f in
      let j = judge_full_closed o.0 N now o.1 w.fill some in
      rw (ne_eqb N 0 (omega arith)) (record {
        opened = j.opened ∙ w.opened;
        fill = j.fill;
        closed = λ n d. j.closed n
            ∙ ap (λ (b : Standing). cond (eqb N n && too_few s b) now (closed_of o.1 n)) (w.bits N (λ e. omega arith))
            ∙ ap (λ (v : ℕ). cond (eqb N n && too_few s (block_bits f N)) now v) (w.closed n d);
        new = j.closed (N + 1) ∙ rw (ne_eqb N (N + 1) (λ e. omega arith)) w.new;
      })

-- ---- records come, m still to go, with N ≥ 1 blocks at first
module _ (s : Settings) (N total now : ℕ) (few : Bool) (C : ℕ → ℕ) where
  -- No block has opened. `few` tells whether fewer than q stand in the acceptor once its free slots are taken.
  pub record Before (m : ℕ) (c : Cursor) (g : Memory) : Type 0 where
    pub opened : c.opened ≡ N
    pub fill : c.fill + m ≡ total
    pub fits : c.fill ≤ s.block
    pub bits : too_few s (taken_up (block_bits g N) c.fill (s.block - c.fill)) ≡ few
    pub closed : (n : ℕ) → closed_of g n ≡ C n

  -- One has, because they had no room.
  pub record After (m : ℕ) (c : Cursor) (g : Memory) : Type 0 where
    pub opened : c.opened ≡ N + 1
    pub fill : c.fill + m < 2 * s.useful
    pub over : s.block < total
    pub closed : (n : ℕ) → n ≢ N + 1 → closed_of g n ≡ cond (eqb N n && few) now (C n)
    pub new : closed_of g (N + 1) ≡ OPEN

  pub data Along (m : ℕ) (c : Cursor) (g : Memory) : Type 0 where
    before : Before m c g → Along m c g
    after : After m c g → Along m c g

  -- with room for the next of them
  pub record Roomy (m : ℕ) (c : Cursor) (g : Memory) : Type 0 where
    pub along : Along m c g
    pub room : c.fill < s.block
    pub beyond : N ≤ c.opened

module _ {s : Settings} (z : Within s) {N total now : ℕ} {few : Bool} {C : ℕ → ℕ} (low : 1 ≤ N) where
  room_along : {m : ℕ} (c : Cursor) (f : Memory) → 1 ≤ m → m ≤ s.useful → Along s N total now few C m c f
      → let d = run_on (make_room s c now) f in Roomy s N total now few C m d.0 d.1
  unfolding make_room
  room_along {m} c f some most (before i) =
      let first : eqb c.opened 0 ≡ false = ne_eqb c.opened 0 (λ e. omega (arith, i.opened)) in
      rw first (cond_all (λ (d : Cursor × Memory). Roomy s N total now few C m d.0 d.1) (eqb c.fill s.block)
      (λ t.
      let full = eqb-true c.fill s.block t in
      let r = roll_closed s c now f (omega (arith, i.opened)) z.some in
      let none : s.block - c.fill ≡ 0 = omega arith in
      let these : too_few s (block_bits f c.opened) ≡ few = rw i.opened (rw none at i.bits) in
      record {
        along = after (record {
          opened = r.opened ∙ ap (λ (n : ℕ). n + 1) i.opened;
          fill = omega (arith, r.fill);
          over = omega (arith, i.fill);
          closed = λ n d. r.closed n (λ e. d (e ∙ ap (λ (y : ℕ). y + 1) i.opened)) ∙ rw (these, i.opened, i.closed n);
          new = ap (λ (y : ℕ). closed_of (run_on (roll s c now) f).1 (y + 1)) (sym i.opened) ∙ r.new;
        });
        room = omega (arith, r.fill, z.half);
        beyond = omega (arith, r.opened, i.opened);
      })
      (λ t. record { along = before i; room = omega (arith, eqb-false c.fill s.block t, i.fits); beyond = omega (arith, i.opened) }))
  room_along {m} c f some most (after i) =
      let first : eqb c.opened 0 ≡ false = ne_eqb c.opened 0 (λ e. omega (arith, i.opened)) in
      let free : eqb c.fill s.block ≡ false = ne_eqb c.fill s.block (λ e. omega (arith, i.fill, z.half)) in
      rw (first, free) (record { along = after i; room = omega (arith, i.fill, z.half); beyond = omega (arith, i.opened) })

  -- one of them is placed
  put_along : {m : ℕ} (c : Cursor) (f : Memory) (tag : ℕ) (p : Payload) → Roomy s N total now few C (m + 1) c f
      → let d = run_on (put_record s c now tag p) f in Along s N total now few C m d.0 d.1
  unfolding put_record
  put_along {m} c f tag p r = go r.along
    where
      go : Along s N total now few C (m + 1) c f
          → let d = run_on (put_record s c now tag p) f in Along s N total now few C m d.0 d.1
      go (before i) =
          let g = (run_on (put_record s c now tag p) f).1 in
          let more : s.block - c.fill ≡ suc (s.block - (c.fill + 1)) = omega (arith, r.room) in
          let raise : block_bits g c.opened ≡ raised (block_bits f c.opened) c.fill = bit_raised f c.opened c.fill (omega (arith, r.room, z.most)) in
          let raise' : block_bits g N ≡ raised (block_bits f N) c.fill = subst (λ (n : ℕ). block_bits g n ≡ raised (block_bits f n) c.fill) i.opened raise in
          before (record {
            opened = i.opened;
            fill = omega (arith, i.fill);
            fits = omega (arith, r.room);
            bits = ap (λ (b : Standing). too_few s (taken_up b (c.fill + 1) (s.block - (c.fill + 1)))) raise'
                ∙ ap (λ (n : ℕ). too_few s (taken_up (block_bits f N) c.fill n)) (sym more) ∙ i.bits;
            closed = i.closed;
          })
      go (after i) = after (record { opened = i.opened; fill = omega (arith, i.fill); over = i.over; closed = i.closed; new = i.new })

  pub place_along : {m : ℕ} (c : Cursor) (f : Memory) (tag reading : ℕ) → m < s.useful → Along s N total now few C (m + 1) c f
      → let d = run_on (place s c now tag reading) f in Along s N total now few C m d.0 d.1
  unfolding place
  place_along c f tag reading most i =
      let y = run_on (make_room s c now) f in
      put_along y.0 y.1 tag (new_payload reading now) (room_along c f (omega arith) (omega arith) i)

  -- a record of a block before the acceptor ends
  end_along : {m : ℕ} (c : Cursor) (f : Memory) (x k : ℕ) → x < N → Roomy s N total now few C m c f
      → Roomy s N total now few C m c (run_on (end_record x k now) f).1
  unfolding end_record
  end_along {m} c f x k inner r = record { along = go r.along; room = r.room; beyond = r.beyond }
    where
      go : Along s N total now few C m c f → Along s N total now few C m c (run_on (end_record x k now) f).1
      go (before i) = before (record {
        opened = i.opened;
        fill = i.fill;
        fits = i.fits;
        bits = ap (λ (b : Standing). too_few s (taken_up b c.fill (s.block - c.fill))) (bit_elsewhere without_bit f x k N (λ e. omega arith)) ∙ i.bits;
        closed = i.closed;
      })
      go (after i) = after (record { opened = i.opened; fill = i.fill; over = i.over; closed = i.closed; new = i.new })

  -- and is placed again
  pub replace_along : {m : ℕ} (c : Cursor) (f : Memory) (x k : ℕ) → x < N → m < s.useful → Along s N total now few C (m + 1) c f
      → let d = run_on (replace s x now k c) f in Along s N total now few C m d.0 d.1
  unfolding replace move_record
  replace_along c f x k inner most i =
      let y = run_on (make_room s c now) f in
      let r = room_along c f (omega arith) (omega arith) i in
      put_along y.0 (run_on (end_record x k now) y.1).1 (y.1 (Slot x k tag_word)) (payload_at y.1 x k) (end_along y.0 y.1 x k inner r)
