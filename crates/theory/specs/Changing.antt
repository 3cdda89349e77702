-- The changes: a record is placed (place_law); a block closes and its records go where any record goes, blocks opening on the way
-- (closing_law); a tag is cleared and its block judged (clear_law). Each keeps the invariant and the useful blocks, tells the log, and
-- makes of the book what document 01's rules make of it.
use Rattle.std.specs.Prelude.{◌≡◌, refl, ◌≢◌, ℕ, ◌+◌, ◌*◌, ◌-◌, ◌/◌, ◌%◌, ◌≤◌, ◌<◌, ltb, length}
use Rattle.std.proofs.Math.Path.{sym, ap, ap₂}
use Rattle.std.proofs.Common.{◌∙◌, arith}
use mathlib.Core.List.{List, ◌∷◌, map}
use Rattle.std.proofs.Math.Arith.{digits_div, digits_mod}
use Rattle.std.proofs.Math.Dec.{eqb}
use borrow.Author.Tests.{eqb-true, eqb-false, ltb-false, eq-eqb, ne_eqb}
use Rattle.base.specs.Branch.{is?, cond_all, cond_rel}
use Rattle.base.specs.Slots.{slots_of}
use Rattle.layout.specs.declared.settings.Settings.{Settings}
use Rattle.layout.specs.declared.head.Cursor.{Cursor}
use Rattle.layout.specs.declared.address.Address.TheVariants.{Dir, Bits, Slot}
use Rattle.layout.specs.Sizes.{OPEN}
use Rattle.layout.specs.Fields.{tag_word, to_word}
use Rattle.layout.specs.Settings.{Within}
use Rattle.layout.specs.Memory.{Memory}
use Rattle.layout.specs.Program.{run_on}
use Rattle.layout.specs.declared.payload.Payload.{Payload}
use Rattle.layout.specs.Payload.{new_payload}
use Rattle.calls.specs.Placing.{place_of, block_of, slot_of, unlink, end_record, standing, put_record, move_record, make_room, place, replace, close, judge, clear_tag}
use Rattle.calls.specs.Book.{Block, on_block, closes_at, last_of, appends, in_order, judges, writes, layers, holder_of, ends_in, book_clear}
use Rattle.theory.specs.RunLaws.{each_walk}
use Rattle.theory.specs.Effects.{view, records_of, end_records, put_records}
use Rattle.theory.specs.Records.{Placed, Record}
use Rattle.theory.specs.Timeline.{Timeline, none, some, logged}
use Rattle.theory.specs.Marks.{Pending, pending_frame}
use Rattle.theory.specs.State.{Shape, shape, State, NoneDue, DueAnd, same_end, free, not_found, pending, alone, cleared_at}
use Rattle.theory.specs.State.{unlink_shape, set_record, clear_record}
use Rattle.theory.specs.Moving.{Moving, moved_all, unlinked_moving, move_step, useful_set, useful_end, useful_judged, useful_all}
use Rattle.theory.specs.Rolling.{Full, Rolled, room_law, rolled_write}
use Rattle.theory.specs.Layers.{Write}
use Rattle.theory.specs.BookOf.{size_of, blocks_in, book_of, book_ends, last_size, full_size, book_last, book_holder}
use Rattle.theory.specs.BookParts.{Writing, written, put_book, move_book, move_tags, unlink_writing, judges_slots}

-- document 01's write with these settings
abbrev pub writes_at : Settings → ℕ → Write
writes_at s now = writes layers s.block s.useful now

-- what a change leaves: the invariant at its second, and the book that the store then shows
pub record Made (s : Settings) (Due : ℕ → Type 0) (now : ℕ) (log : Timeline) (book : List Block) (T : Shape) : Type 0 where
  pub full : Full s Due 0 0 now log T
  pub shows : blocks_in s T ≡ book

-- ---- a record is placed
module _ {s : Settings} {Due : ℕ → Type 0} where
  -- what a record in an acceptor with room leaves
  put_full : {now : ℕ} {log log' : Timeline} {S : Shape} (c : Cursor) (f : Memory) (tag : ℕ) (p : Payload) → Rolled s Due now log S (shape c f)
      → let z = run_on (put_record s c now tag p) f in State s Due now log' (shape z.0 z.1) → Full s Due 0 0 now log' (shape z.0 z.1)
  unfolding put_record
  put_full {now} c f tag p r st = record {
    state = st;
    useful = useful_set r.full.useful (put_records s c now tag p f);
    within = r.full.within;
    fits = omega (arith, r.room);
  }

  pub place_law : {clock : ℕ} {log : Timeline} (c : Cursor) (f : Memory) (now tag reading : ℕ) → Full s Due 0 0 clock log (shape c f) → clock ≤ now
      → now < OPEN → tag < s.tags → f (Dir tag) ≡ 0
      → let z = run_on (place s c now tag reading) f in
      Made s Due now (logged now tag (some (new_payload reading now)) log) (writes_at s now tag (blocks_in s (shape c f))) (shape z.0 z.1)
  unfolding place
  place_law c f now tag reading i later ends known d =
      let z = run_on (make_room s c now) f in
      let r = room_law c f now i later ends in
      let unknown : z.1 (Dir tag) ≡ 0 = not_found r.full.state tag (free i.state tag d now later ends) in
      let set = set_record z.0 z.1 r.full.state (omega arith) ends tag (new_payload reading now) r.low r.room known unknown in
      record {
        full = put_full z.0 z.1 tag (new_payload reading now) r set;
        shows = put_book s z.0 z.1 now tag (new_payload reading now) r.low r.full.state.links.last ∙ rolled_write r tag;
      }

-- ---- a block closes whose records may fill the acceptor up: in the midst of it
pub record Outer (s : Settings) (Due : ℕ → Type 0) (now : ℕ) (log : Timeline) (x : ℕ) (rest : List ℕ) (S : Shape) : Type 0 where
  pub moving : Moving s Due now log x rest S
  pub within : Within s
  pub fits : S.fill ≤ s.block

module _ {s : Settings} {Due : ℕ → Type 0} {now : ℕ} {log : Timeline} {x : ℕ} where
  pub outer_full : {l : List ℕ} {S : Shape} → Outer s Due now log x l S → Full s (DueAnd Due x) 0 0 now log S
  outer_full m = record { state = m.moving.state; useful = m.moving.useful; within = m.within; fits = m.fits }

  -- room is made for the next record
  pub outer_room : {l : List ℕ} (c : Cursor) (f : Memory) → Outer s Due now log x l (shape c f)
      → let z = run_on (make_room s c now) f in Rolled s (DueAnd Due x) now log (shape c f) (shape z.0 z.1)
  outer_room c f m = room_law c f now (outer_full m) (omega arith) m.moving.state.past

  -- which leaves the records of x, for x lies before the acceptor
  pub rolled_moving : {l : List ℕ} {S T : Shape} → Moving s Due now log x l S → Rolled s (DueAnd Due x) now log S T → Moving s Due now log x l T
  rolled_moving m r = record {
    state = r.full.state;
    useful = r.full.useful;
    closed_now = r.beyond.closed x m.before ∙ m.closed_now;
    before = omega (arith, m.before, r.beyond.grows);
    lo = m.lo;
    done = λ k a w. m.done k a (same_end (r.beyond.records x k m.before) w);
    pend = pending_frame (λ k a. r.beyond.records x k m.before) m.pend;
  }

  -- and moves there
  outer_moved : {S : Shape} (k : ℕ) (l : List ℕ) (c : Cursor) (f : Memory) → Moving s Due now log x (k ∷ l) (shape c f)
      → Rolled s (DueAnd Due x) now log S (shape c f) → let z = run_on (move_record s x now k c) f in Outer s Due now log x l (shape z.0 z.1)
  unfolding move_record end_record put_record
  outer_moved k l c f m r = record { moving = move_step k l c f m r.room; within = r.full.within; fits = omega (arith, r.room) }

  pub outer_step : (k : ℕ) (l : List ℕ) (c : Cursor) (f : Memory) → Outer s Due now log x (k ∷ l) (shape c f)
      → let z = run_on (replace s x now k c) f in Outer s Due now log x l (shape z.0 z.1)
  unfolding replace
  outer_step k l c f m =
      let z = run_on (make_room s c now) f in
      let r = outer_room c f m in
      outer_moved k l z.0 z.1 (rolled_moving m.moving r) r

  pub outer_start : (c : Cursor) (f : Memory) (l : List ℕ) → Full s Due x now now log (shape c f) → 1 ≤ x → x < c.opened → (view c f).closed x ≡ OPEN
      → Pending (records_of f) x 0 l → let z = run_on (unlink c x now) f in Outer s Due now log x l (shape z.0 z.1)
  outer_start c f l i low inner o p = record {
    moving = unlinked_moving c f l i.state i.useful (omega arith) i.state.past low inner o p;
    within = i.within;
    fits = omega (arith, ap (λ (S : Shape). S.fill) (unlink_shape c x now f), i.fits);
  }

  -- so in the book
  replaced : {tag : ℕ → ℕ} {end : List Block} (k : ℕ) (l : List ℕ) (c : Cursor) (f : Memory) → Writing s (Outer s Due now log x) (writes_at s now) x tag end (k ∷ l) (shape c f)
      → let z = run_on (replace s x now k c) f in Writing s (Outer s Due now log x) (writes_at s now) x tag end l (shape z.0 z.1)
  unfolding replace
  replaced k l c f m =
      let z = run_on (make_room s c now) f in
      let o = m.walk in
      let r = outer_room c f o in
      let v = rolled_moving o.moving r in
      let tags : (j : ℕ) → z.1 (Slot x j tag_word) ≡ f (Slot x j tag_word) =
      λ j. ap (λ (e : Record). e.tag) (r.beyond.records x j o.moving.before) in
      written m (outer_step k l c f o) (λ j. move_tags s z.0 z.1 x k now v.before j ∙ tags j)
      (move_book s z.0 z.1 x k now v.before r.full.state.links.last (λ e. omega (arith, v.closed_now, v.state.past))
      ∙ ap (λ (g : ℕ). appends g (blocks_in s (shape z.0 z.1))) (tags k)
      ∙ rolled_write r (f (Slot x k tag_word)))

module _ {s : Settings} {Due : ℕ → Type 0} {log : Timeline} where
  closing_law : (c : Cursor) (f : Memory) (x now : ℕ) (l : List ℕ) → Full s Due x now now log (shape c f) → 1 ≤ x → x < c.opened
      → (view c f).closed x ≡ OPEN → Pending (records_of f) x 0 l → let z = run_on (close s c x now l) f in let blocks = blocks_in s (shape c f) in
      Made s Due now log (in_order (writes_at s now) (map (λ k. f (Slot x k tag_word)) l) (on_block (x - 1) (closes_at now) blocks)) (shape z.0 z.1)
  unfolding close
  closing_law c f x now l i low inner o p =
      let z = run_on (unlink c x now) f in
      let end = in_order (writes_at s now) (map (λ k. f (Slot x k tag_word)) l) (on_block (x - 1) (closes_at now) (blocks_in s (shape c f))) in
      let m = each_walk
      (λ y (d : Cursor) (g : Memory). Writing s (Outer s Due now log x) (writes_at s now) x (λ k. f (Slot x k tag_word)) end y (shape d g))
      (replace s x now) (λ k y d g m. replaced k y d g m) l z.0 z.1
      (unlink_writing s c f x now low i.state.past (writes_at s now) l (outer_start c f l i low inner o p)) in
      let w = m.walk in
      record {
        full = record { state = moved_all w.moving; useful = w.moving.useful; within = w.within; fits = w.fits };
        shows = m.book;
      }

  -- a block other than the acceptor is judged
  judging_law : (c : Cursor) (f : Memory) (x now : ℕ) → Full s Due x now now log (shape c f) → 1 ≤ x → x < c.opened → (view c f).closed x ≡ OPEN
      → let z = run_on (judge s c x now) f in
      Made s Due now log (judges (writes_at s now) s.useful now (x - 1) (blocks_in s (shape c f))) (shape z.0 z.1)
  unfolding judge standing
  judging_law c f x now i low inner o =
      let l = slots_of (f (Bits x 0)) (f (Bits x 1)) in
      let blocks = blocks_in s (shape c f) in
      let book = judges (writes_at s now) s.useful now (x - 1) blocks in
      let same = judges_slots s (writes_at s now) c f x now i.state i.within low inner o in
      cond_all (λ (w : Cursor × Memory). Made s Due now log book (shape w.0 w.1)) (ltb (length l) s.useful)
      (λ t.
      let taken : book ≡ in_order (writes_at s now) (map (λ k. f (Slot x k tag_word)) l) (on_block (x - 1) (closes_at now) blocks) = same ∙ rw t in
      let r = closing_law c f x now l i low inner o (pending i.state x i.within) in
      record { full = r.full; shows = r.shows ∙ sym taken })
      (λ t.
      let passed : book ≡ blocks = same ∙ rw t in
      let all = useful_judged i.state i.useful (omega arith) (ltb-false (length l) s.useful t) in
      record { full = record { state = i.state; useful = all; within = i.within; fits = i.fits }; shows = sym passed })

-- ---- a tag is cleared
-- what the directory has is the place of a standing record
pub record PlaceStands (s : Settings) (c : Cursor) (f : Memory) (tag n k : ℕ) : Type 0 where
  pub placed : Placed c.opened c.fill s.block n k
  pub unended : f (Slot n k to_word) ≡ OPEN
  pub tagged : f (Slot n k tag_word) ≡ tag

module _ {s : Settings} {Due : ℕ → Type 0} {clock : ℕ} {log : Timeline} where
  pub place_stands : (c : Cursor) (f : Memory) (tag : ℕ) → State s Due clock log (shape c f) → f (Dir tag) ≢ 0
      → PlaceStands s c f tag (block_of s (f (Dir tag))) (slot_of s (f (Dir tag)))
  place_stands c f tag i d = let w = i.found.found tag d in go w.0 w.1 w.2 w.3
    where
      go : (n k : ℕ) → f (Slot n k to_word) ≡ OPEN → f (Slot n k tag_word) ≡ tag
          → PlaceStands s c f tag (block_of s (f (Dir tag))) (slot_of s (f (Dir tag)))
      go n k o t =
          let p = i.kept.used n k (omega (arith, i.past)) in
          let e : f (Dir tag) ≡ place_of s n k = ap (λ (y : ℕ). f (Dir y)) (sym t) ∙ i.found.finds n k o in
          let before : f (Dir tag) - 1 ≡ (n - 1) * s.block + k = omega arith in
          let x : block_of s (f (Dir tag)) ≡ n =
          ap (λ (y : ℕ). y / s.block + 1) before ∙ ap (λ (y : ℕ). y + 1) (digits_div (n - 1) p.slot) ∙ omega (arith, p.low) in
          let y : slot_of s (f (Dir tag)) ≡ k = ap (λ (y : ℕ). y % s.block) before ∙ digits_mod (n - 1) p.slot in
          rw (x, y) (record { placed = p; unended = o; tagged = t })

-- an unended record lies in an open block, if nothing is due
pub open_block : {s : Settings} {clock : ℕ} {log : Timeline} {S : Shape} (n k : ℕ) → State s NoneDue clock log S → (S.records n k).to ≡ OPEN
    → S.view.closed n ≡ OPEN
open_block {S = S} n k i o = is? (S.view.closed n) OPEN (λ z. z) (λ d. absurd (i.calm n k d o))

-- its block stays open
pub clear_closed : (c : Cursor) (f : Memory) (n k now tag m : ℕ) → (view c (cleared_at n k now tag f)).closed m ≡ (view c f).closed m
unfolding end_record
clear_closed c f n k now tag m = refl

-- the record ends in its block
clear_ends : {s : Settings} {Due : ℕ → Type 0} {clock : ℕ} {log : Timeline} (c : Cursor) (f : Memory) (n k now tag : ℕ)
    → State s Due clock log (shape c f)
    → now < OPEN → 1 ≤ n → f (Slot n k to_word) ≡ OPEN → f (Slot n k tag_word) ≡ tag
    → blocks_in s (shape c (cleared_at n k now tag f)) ≡ on_block (n - 1) (ends_in tag) (blocks_in s (shape c f))
unfolding end_record
clear_ends {s} c f n k now tag i ends low o is-tag =
    book_ends s.block (shape c f) (end_records n k now f) ends low (λ j w t. (alone i n k n j o w t).1)
    ∙ ap (λ (g : ℕ). on_block (n - 1) (ends_in g) (blocks_in s (shape c f))) is-tag

-- block numbers from 1 and from 0
eqb_before : (n m : ℕ) → 1 ≤ n → 1 ≤ m → eqb n m ≡ eqb (n - 1) (m - 1)
eqb_before n m a b = is? n m
    (λ z. eq-eqb n m z ∙ sym (eq-eqb (n - 1) (m - 1) (omega arith)))
    (λ z. ne_eqb n m z ∙ sym (ne_eqb (n - 1) (m - 1) (omega arith)))

module _ {s : Settings} {clock : ℕ} {log : Timeline} where
  -- its record ends: the block is to be judged
  pub clear_full : (c : Cursor) (f : Memory) (n k now tag : ℕ) → Full s NoneDue 0 0 clock log (shape c f) → clock ≤ now → now < OPEN
      → f (Slot n k to_word) ≡ OPEN → f (Slot n k tag_word) ≡ tag
      → Full s NoneDue n now now (logged now tag none log) (shape c (cleared_at n k now tag f))
  unfolding end_record
  clear_full c f n k now tag i later ends o t = record {
    state = clear_record c f i.state later ends n k tag o t (open_block n k i.state o);
    useful = useful_end i.useful (end_records n k now f);
    within = i.within;
    fits = i.fits;
  }

  -- the book holds the tag where the directory has it
  holder_book : (c : Cursor) (f : Memory) (n k : ℕ) → Full s NoneDue 0 0 clock log (shape c f) → f (Slot n k to_word) ≡ OPEN
      → holder_of (f (Slot n k tag_word)) (blocks_in s (shape c f)) ≡ n - 1
  holder_book c f n k i o =
      let p = i.state.kept.used n k (omega arith) in
      let size : k < size_of s.block (shape c f) n =
      is? n c.opened (λ z. rw (last_size s.block (shape c f) n z) (p.last z)) (λ z. rw (full_size s.block (shape c f) n z) p.slot) in
      book_holder s.block (shape c f) n k p.low p.high size (open_block n k i.state o) o (λ m j w t. (alone i.state n k m j o w t).0)

  pub clear_law : (c : Cursor) (f : Memory) (now tag : ℕ) → Full s NoneDue 0 0 clock log (shape c f) → clock ≤ now → now < OPEN → f (Dir tag) ≢ 0
      → let z = run_on (clear_tag s c now tag) f in
      Made s NoneDue now (logged now tag none log) (book_clear now tag (book_of s (shape c f))).blocks (shape z.0 z.1)
  unfolding clear_tag
  clear_law c f now tag i later ends d =
      let n = block_of s (f (Dir tag)) in
      let k = slot_of s (f (Dir tag)) in
      let blocks = blocks_in s (shape c f) in
      let w = place_stands c f tag i.state d in
      let p = w.placed in
      let o = open_block n k i.state w.unended in
      let r = clear_full c f n k now tag i later ends w.unended w.tagged in
      let holder : holder_of tag blocks ≡ n - 1 = ap (λ (g : ℕ). holder_of g blocks) (sym w.tagged) ∙ holder_book c f n k i w.unended in
      let after : blocks_in s (shape c (cleared_at n k now tag f)) ≡ on_block (holder_of tag blocks) (ends_in tag) blocks =
      clear_ends c f n k now tag i.state ends p.low w.unended w.tagged ∙ ap (λ (j : ℕ). on_block j (ends_in tag) blocks) (sym holder) in
      let test : eqb n c.opened ≡ eqb (holder_of tag blocks) (last_of blocks) =
      eqb_before n c.opened p.low (omega (arith, p.low, p.high)) ∙ ap₂ eqb (sym holder) (sym (book_last s.block (shape c f))) in
      cond_rel (λ (y : Cursor × Memory) (b : List Block). Made s NoneDue now (logged now tag none log) b (shape y.0 y.1)) test
      (λ t.
      let all = useful_all r.useful (λ _. omega (arith, eqb-true n c.opened t)) in
      record { full = record { state = r.state; useful = all; within = r.within; fits = r.fits }; shows = after })
      (λ t.
      let j = judging_law c (cleared_at n k now tag f) n now r p.low (omega (arith, eqb-false n c.opened t, p.high))
      (clear_closed c f n k now tag n ∙ o) in
      record { full = j.full; shows = j.shows ∙ ap₂ (judges (writes_at s now) s.useful now) (sym holder) after })
