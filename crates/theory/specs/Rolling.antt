-- Room in the acceptor. A full block closes with all its records going to an acceptor that has room for them (close_law); the old acceptor
-- is judged once a block has opened (judge_law, roll_law); and so room is made (room_law). All laws hold in the midst of a change too,
-- and say what the book then is.
use Rattle.std.specs.Prelude.{◌≡◌, refl, true, cond, ◌||◌, ℕ, ◌+◌, ◌-◌, ◌≤◌, ◌<◌, ltb, length}
use Rattle.std.proofs.Math.Path.{sym, ap₂, subst⁻¹}
use Rattle.std.proofs.Common.{ap, ◌∙◌, arith}
use mathlib.Core.List.{List, ◌∷◌, map}
use Rattle.std.proofs.Math.Dec.{eqb}
use borrow.Author.Tests.{eqb-true, eqb-false, eq-eqb, ne_eqb, ltb-true, ltb-false}
use Rattle.base.specs.Branch.{cond_all, or-false}
use Rattle.base.specs.Slots.{slots_of}
use Rattle.layout.specs.declared.settings.Settings.{Settings}
use Rattle.layout.specs.declared.head.Cursor.{Cursor}
use Rattle.layout.specs.declared.address.Address.TheVariants.{Bits, Slot}
use Rattle.layout.specs.Sizes.{OPEN}
use Rattle.layout.specs.Fields.{tag_word}
use Rattle.layout.specs.Settings.{Within}
use Rattle.layout.specs.Memory.{Memory}
use Rattle.layout.specs.Program.{run_on}
use Rattle.calls.specs.Placing.{open_block, unlink, end_record, standing, put_record, move_record, close_full, judge_full, roll, make_room}
use Rattle.calls.specs.Book.{Block, opens_at, on_block, entries_of, closes_at, last_of, appends, in_order, judges, writes, layers}
use Rattle.theory.specs.RunLaws.{each_walk}
use Rattle.theory.specs.Effects.{view, unlink_effect, open_effect, records_of, open_records}
use Rattle.theory.specs.Records.{Records}
use Rattle.theory.specs.Timeline.{Timeline}
use Rattle.theory.specs.Marks.{Marks, Pending}
use Rattle.theory.specs.State.{Shape, shape, State, pending, state_later, unlink_shape, open_cursor, open_shape, opened_block, appended}
use Rattle.theory.specs.Moving.{MovedAt, Moving, moved_all, unlinked_moving, move_effect, move_step, Useful, useful_open, useful_judged, useful_all}
use Rattle.theory.specs.Layers.{write_layers}
use Rattle.theory.specs.BookOf.{blocks_in, book_length, book_fill, book_last}
use Rattle.theory.specs.BookParts.{Writing, written, move_book, move_tags, unlink_writing, open_book, judges_slots}

-- T differs from S at block x and above only
pub record Beyond (x : ℕ) (S T : Shape) : Type 0 where
  pub records : (n k : ℕ) → n < x → T.records n k ≡ S.records n k
  pub closed : (n : ℕ) → n < x → T.view.closed n ≡ S.view.closed n
  pub grows : S.opened ≤ T.opened

pub beyond_refl : {x : ℕ} {S : Shape} → Beyond x S S
beyond_refl = record { records = λ n k a. refl; closed = λ n a. refl; grows = omega arith }

pub beyond_then : {x y : ℕ} {S T W : Shape} → Beyond x S T → Beyond y T W → x ≤ y → Beyond x S W
beyond_then e f l = record {
  records = λ n k a. f.records n k (omega arith) ∙ e.records n k a;
  closed = λ n a. f.closed n (omega arith) ∙ e.closed n a;
  grows = omega (arith, e.grows, f.grows);
}

beyond_move : {s : Settings} {x k now : ℕ} {S : Shape} {middle records : Records} {midmarks marks : Marks} {directory : ℕ → ℕ}
    → MovedAt s S now x k middle records midmarks marks directory → x < S.opened → Beyond x S (appended S records marks directory)
beyond_move e l = record {
  records = λ n k a. e.begins.other n k (λ z. omega arith) ∙ e.ends.other n k (λ z. omega arith);
  closed = λ n a. refl;
  grows = omega arith;
}

-- the invariant with useful blocks, but for block x from second `from` on, and settings within their limits
pub record Full (s : Settings) (Due : ℕ → Type 0) (x from clock : ℕ) (log : Timeline) (S : Shape) : Type 0 where
  pub state : State s Due clock log S
  pub useful : Useful s x from S
  pub within : Within s
  pub fits : S.fill ≤ s.block

-- ---- a walk over the records of x, from the shape S₀, that fills the acceptor to `cap` at most
pub record Inner (s : Settings) (Due : ℕ → Type 0) (now : ℕ) (log : Timeline) (x : ℕ) (S₀ : Shape) (cap : ℕ) (rest : List ℕ) (S : Shape)
    : Type 0 where
  pub moving : Moving s Due now log x rest S
  pub beyond : Beyond x S₀ S
  pub room : S.fill + length rest ≤ cap
  pub opened : S.opened ≡ S₀.opened

-- what is left of it, in T, once block x has closed, and the book that T shows
pub record Closed (s : Settings) (Due : ℕ → Type 0) (now : ℕ) (log : Timeline) (x cap : ℕ) (book : List Block) (S T : Shape) : Type 0 where
  pub state : State s Due now log T
  pub useful : Useful s 0 0 T
  pub beyond : Beyond x S T
  pub room : T.fill ≤ cap
  pub opened : T.opened ≡ S.opened
  pub shows : blocks_in s T ≡ book

module _ {s : Settings} {Due : ℕ → Type 0} {now : ℕ} {log : Timeline} {x cap : ℕ} where
  inner_step : {S₀ : Shape} → cap ≤ s.block → (k : ℕ) (l : List ℕ) (c : Cursor) (f : Memory) → Inner s Due now log x S₀ cap (k ∷ l) (shape c f)
      → let z = run_on (move_record s x now k c) f in Inner s Due now log x S₀ cap l (shape z.0 z.1)
  unfolding move_record end_record put_record
  inner_step fits k l c f m =
      let e = move_effect s c f now x k in
      record {
        moving = move_step k l c f m.moving (omega (arith, m.room));
        beyond = beyond_then m.beyond (beyond_move e m.moving.before) (omega arith);
        room = omega (arith, m.room);
        opened = m.opened;
      }

  inner_start : {clock : ℕ} (c : Cursor) (f : Memory) (l : List ℕ) → State s Due clock log (shape c f) → Useful s x now (shape c f) → clock ≤ now
      → now < OPEN → 1 ≤ x → x < c.opened → (view c f).closed x ≡ OPEN → Pending (records_of f) x 0 l → c.fill + length l ≤ cap
      → let z = run_on (unlink c x now) f in Inner s Due now log x (shape c f) cap l (shape z.0 z.1)
  inner_start c f l i u later ends low inner o p room =
      let e = unlink_effect c f x now low in
      let same = unlink_shape c x now f in
      record {
        moving = unlinked_moving c f l i u later ends low inner o p;
        beyond = subst⁻¹ (λ (S : Shape). Beyond x (shape c f) S) same
            (record { records = λ n k a. refl; closed = λ n a. e.closed.other n (omega arith); grows = omega arith });
        room = omega (arith, ap (λ (S : Shape). S.fill) same);
        opened = ap (λ (S : Shape). S.opened) same;
      }

module _ {s : Settings} {Due : ℕ → Type 0} {log : Timeline} where
  pub close_law : {clock cap : ℕ} (c : Cursor) (f : Memory) (x now : ℕ) (l : List ℕ) → State s Due clock log (shape c f) → Useful s x now (shape c f)
      → clock ≤ now → now < OPEN → 1 ≤ x → x < c.opened → (view c f).closed x ≡ OPEN → Pending (records_of f) x 0 l → c.fill + length l ≤ cap
      → cap ≤ s.block → let z = run_on (close_full s c x now l) f in let blocks = blocks_in s (shape c f) in
      Closed s Due now log x cap (in_order appends (map (λ k. f (Slot x k tag_word)) l) (on_block (x - 1) (closes_at now) blocks)) (shape c f) (shape z.0 z.1)
  unfolding close_full
  close_law {cap = cap} c f x now l i u later ends low inner o p room fits =
      let z = run_on (unlink c x now) f in
      let end = in_order appends (map (λ k. f (Slot x k tag_word)) l) (on_block (x - 1) (closes_at now) (blocks_in s (shape c f))) in
      let m = each_walk
      (λ y (d : Cursor) (g : Memory). Writing s (Inner s Due now log x (shape c f) cap) appends x (λ k. f (Slot x k tag_word)) end y (shape d g))
      (move_record s x now)
      (λ k y d g m.
      let v = m.walk.moving in
      written m (inner_step fits k y d g m.walk) (move_tags s d g x k now v.before)
      (move_book s d g x k now v.before v.state.links.last (λ e. omega (arith, v.closed_now))))
      l z.0 z.1 (unlink_writing s c f x now low ends appends l (inner_start c f l i u later ends low inner o p room)) in
      let w = m.walk in
      record {
        state = moved_all w.moving;
        useful = w.moving.useful;
        beyond = w.beyond;
        room = omega (arith, w.room);
        opened = w.opened;
        shows = m.book;
      }

  -- judged: it closes, or has q standing
  pub judge_law : (c : Cursor) (f : Memory) (x now : ℕ) → State s Due now log (shape c f) → Useful s x now (shape c f) → Within s → 1 ≤ x
      → x < c.opened → (view c f).closed x ≡ OPEN → c.fill + s.useful ≤ s.block
      → let z = run_on (judge_full s c x now) f in
      Closed s Due now log x (c.fill + s.useful) (judges appends s.useful now (x - 1) (blocks_in s (shape c f))) (shape c f) (shape z.0 z.1)
  unfolding judge_full standing
  judge_law c f x now i u z low inner o room =
      let l = slots_of (f (Bits x 0)) (f (Bits x 1)) in
      let blocks = blocks_in s (shape c f) in
      let book = judges appends s.useful now (x - 1) blocks in
      let same = judges_slots s appends c f x now i z low inner o in
      cond_all (λ (w : Cursor × Memory). Closed s Due now log x (c.fill + s.useful) book (shape c f) (shape w.0 w.1)) (ltb (length l) s.useful)
      (λ t.
      let taken : book ≡ in_order appends (map (λ k. f (Slot x k tag_word)) l) (on_block (x - 1) (closes_at now) blocks) = same ∙ rw t in
      let w = run_on (close_full s c x now l) f in
      subst⁻¹ (λ (k : List Block). Closed s Due now log x (c.fill + s.useful) k (shape c f) (shape w.0 w.1)) taken
      (close_law c f x now l i u (omega arith) i.past low inner o (pending i x z) (omega (arith, ltb-true (length l) s.useful t)) room))
      (λ t.
      let passed : book ≡ blocks = same ∙ rw t in
      record {
        state = i;
        useful = useful_judged i u (omega arith) (ltb-false (length l) s.useful t);
        beyond = beyond_refl;
        room = omega arith;
        opened = refl;
        shows = sym passed;
      })

-- ---- a block opens, and the old acceptor is judged
-- what holds once a block has opened: the old acceptor is to be judged
pub record Grown (s : Settings) (Due : ℕ → Type 0) (now : ℕ) (log : Timeline) (c : Cursor) (f : Memory) (d : Cursor) (g : Memory) : Type 0 where
  pub state : State s Due now log (shape d g)
  pub useful : Useful s c.opened now (shape d g)
  pub beyond : Beyond c.opened (shape c f) (shape d g)
  pub opened : d.opened ≡ c.opened + 1
  pub fill : d.fill ≡ 0
  pub stands : (view d g).closed c.opened ≡ OPEN
  pub shows : blocks_in s (shape d g) ≡ opens_at now (blocks_in s (shape c f))

-- room made in the book: a block opens where there is none, or where the last is full, which is then judged
abbrev pub roomed : Settings → ℕ → List Block → List Block
roomed s now blocks =
    cond (eqb (length blocks) 0) (opens_at now blocks)
    (cond (eqb (length (entries_of (last_of blocks) blocks)) s.block) (judges appends s.useful now (last_of blocks) (opens_at now blocks)) blocks)

-- room was made
pub record Rolled (s : Settings) (Due : ℕ → Type 0) (now : ℕ) (log : Timeline) (S T : Shape) : Type 0 where
  pub full : Full s Due 0 0 now log T
  pub beyond : Beyond S.opened S T
  pub low : 1 ≤ T.opened
  pub room : T.fill < s.block
  pub shows : blocks_in s T ≡ roomed s now (blocks_in s S)

-- room and then a record is document 01's write
pub rolled_write : {s : Settings} {Due : ℕ → Type 0} {now : ℕ} {log : Timeline} {S T : Shape} → Rolled s Due now log S T → (tag : ℕ)
    → appends tag (blocks_in s T) ≡ writes layers s.block s.useful now tag (blocks_in s S)
unfolding writes
rolled_write {s} {now = now} {S = S} r tag = ap (appends tag) r.shows ∙ write_layers now (omega (arith, r.full.within.half)) 0 tag (blocks_in s S)

-- room is made where there is no block, or the acceptor is full
pub no_room : (s : Settings) (c : Cursor) → (eqb c.opened 0 || eqb c.fill s.block) ≡ true → 1 ≤ c.opened → c.fill ≡ s.block
no_room s c t low = eqb-true c.fill s.block (rw (ne_eqb c.opened 0 (omega arith)) at t)

module _ {s : Settings} {Due : ℕ → Type 0} {clock : ℕ} {log : Timeline} (c : Cursor) (f : Memory) (now : ℕ) (i : Full s Due 0 0 clock log (shape c f))
    (later : clock ≤ now) (ends : now < OPEN) where
  pub grown_law : (1 ≤ c.opened → c.fill ≡ s.block) → let z = run_on (open_block c now) f in Grown s Due now log c f z.0 z.1
  grown_law full =
      let e = open_effect c f now in
      let m = open_records c now f in
      let h = open_cursor c now f in
      record {
        state = opened_block c f i.state later ends full;
        useful = subst⁻¹ (λ (S : Shape). Useful s c.opened now S) (open_shape c now f) (useful_open i.useful e m);
        beyond = record {
          records = λ n j y. m.other n j (omega arith);
          closed = λ n y. e.closed.other n (omega arith);
          grows = omega (arith, h.0);
        };
        opened = h.0;
        fill = h.1;
        stands = e.closed.other c.opened (omega arith) ∙ i.state.links.last;
        shows = open_book s c f now full;
      }

  pub roll_law : (1 ≤ c.opened → c.fill ≡ s.block) → let z = run_on (roll s c now) f in Rolled s Due now log (shape c f) (shape z.0 z.1)
  unfolding roll
  roll_law full =
      let z = run_on (open_block c now) f in
      let o = grown_law full in
      let w = i.within in
      let blocks = blocks_in s (shape c f) in
      let long = book_length s.block (shape c f) in
      cond_all (λ (y : Cursor × Memory). Rolled s Due now log (shape c f) (shape y.0 y.1)) (eqb c.opened 0)
      (λ t.
      let none : roomed s now blocks ≡ opens_at now blocks = rw (eq-eqb (length blocks) 0 (long ∙ eqb-true c.opened 0 t)) in
      record {
        full = record {
          state = o.state;
          useful = useful_all o.useful (λ y. absurd (omega (arith, eqb-true c.opened 0 t)));
          within = w;
          fits = omega (arith, o.fill);
        };
        beyond = o.beyond;
        low = omega (arith, o.opened);
        room = omega (arith, o.fill, w.least);
        shows = o.shows ∙ sym none;
      })
      (λ t.
      let some : 1 ≤ c.opened = omega (arith, eqb-false c.opened 0 t) in
      let last : roomed s now blocks ≡ judges appends s.useful now (last_of blocks) (opens_at now blocks) =
      rw (ne_eqb (length blocks) 0 (omega (arith, long)), eq-eqb _ _ (book_fill s.block (shape c f) some ∙ full some)) in
      let j = judge_law z.0 z.1 c.opened now o.state o.useful w some (omega (arith, o.opened))
      o.stands (omega (arith, o.fill, w.half)) in
      record {
        full = record { state = j.state; useful = j.useful; within = w; fits = omega (arith, j.room, o.fill, w.half) };
        beyond = beyond_then o.beyond j.beyond (omega arith);
        low = omega (arith, j.opened, o.opened);
        room = omega (arith, j.room, o.fill, w.half, w.some);
        shows = j.shows ∙ ap₂ (judges appends s.useful now) (sym (book_last s.block (shape c f))) o.shows ∙ sym last;
      })

  pub room_law : let z = run_on (make_room s c now) f in Rolled s Due now log (shape c f) (shape z.0 z.1)
  unfolding make_room
  room_law =
      cond_all (λ (y : Cursor × Memory). Rolled s Due now log (shape c f) (shape y.0 y.1)) (eqb c.opened 0 || eqb c.fill s.block)
      (λ t. roll_law (no_room s c t))
      (λ t.
      let d = or-false (eqb c.opened 0) (eqb c.fill s.block) t in
      let some : 1 ≤ c.opened = omega (arith, eqb-false c.opened 0 d.0) in
      let full = eqb-false c.fill s.block d.1 in
      let blocks = blocks_in s (shape c f) in
      let fill = book_fill s.block (shape c f) some in
      let stays : roomed s now blocks ≡ blocks =
      rw (ne_eqb (length blocks) 0 (omega (arith, book_length s.block (shape c f))), ne_eqb (length (entries_of (last_of blocks) blocks)) s.block (λ e. full (sym fill ∙ e))) in
      record {
        full = record { state = state_later i.state later ends; useful = i.useful; within = i.within; fits = i.fits };
        beyond = beyond_refl;
        low = some;
        room = omega (arith, full, i.fits);
        shows = sym stays;
      })
