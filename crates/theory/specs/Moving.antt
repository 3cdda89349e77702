-- Every block has at least q records standing at each second at which it is open and no longer the acceptor (Useful), but for one block
-- from a second on: the one that a change has still to judge. An ending or an opening leaves such a block, judging it settles it. The records of a closed
-- block move to the acceptor, one at a time: the invariant in the midst of it (Moving), with the list of the slots that are left, and a step of it
-- (move_step). With none left the invariant holds as before (moved_all).
use Rattle.std.specs.Prelude.{◌≡◌, refl, List, [], ◌∷◌, ◌≢◌, cond, ℕ, zero, suc, ◌+◌, ◌≤◌, ◌<◌, length, eqb}
use Rattle.std.proofs.Common.{sym, ◌∙◌, inl, inr, arith, le_of_suc-le-suc}
use Rattle.std.proofs.Math.Path.{subst⁻¹}
use Rattle.base.specs.Branch.{is?, lt?}
use Rattle.base.specs.Ones.{Lists, none, more}
use Rattle.base.specs.Slots.{slots_of, slots-of}
use Rattle.layout.specs.declared.settings.Settings.{Settings}
use Rattle.layout.specs.Sizes.{OPEN}
use Rattle.layout.specs.declared.head.Cursor.{Cursor}
use Rattle.layout.specs.declared.address.Address.TheVariants.{Slot}
use Rattle.layout.specs.Fields.{tag_word}
use Rattle.layout.specs.Memory.{Memory}
use Rattle.layout.specs.Program.{run_on}
use Rattle.layout.specs.Payload.{payload_at}
use Rattle.calls.specs.Placing.{place_of, unlink, end_record, put_record, move_record}
use Rattle.theory.specs.Row.{Unlinked, Opened, Put, BlockView}
use Rattle.theory.specs.Records.{Record, Records, Stands, ended_at, begun_at, place?, PutAt, Emptied}
use Rattle.theory.specs.Timeline.{Timeline, told_alike, moved_log}
use Rattle.theory.specs.Marks.{Marks, PutBit, Pending, no_more, one_more, pending_frame}
use Rattle.theory.specs.State.{Shape, State, stands_on, relinked_shape, rewritten, appended, opened_shape, shape, left_row, unlink_shape, begin_state, end_state, DueAnd, state_as}
use Rattle.theory.specs.Effects.{view, put_is, unlink_effect, records_of, marks_of, directory_of, end_records, end_marks, put_records, put_directory, put_marks}

-- at least m numbers from lo on have p
pub data AtLeast (p : ℕ → Type 0) : ℕ → ℕ → Type 0 where
  enough : {lo : ℕ} → AtLeast p lo 0
  another : {lo k m : ℕ} → lo ≤ k → p k → AtLeast p (k + 1) m → AtLeast p lo (suc m)

pub at_least_map : {p r : ℕ → Type 0} {lo m : ℕ} → ((k : ℕ) → p k → r k) → AtLeast p lo m → AtLeast r lo m
at_least_map h enough = enough
at_least_map h (another {k = k} a o u) = another a (h k o) (at_least_map h u)

at_least_listed : {p : ℕ → Type 0} {lo hi : ℕ} {l : List ℕ} (m : ℕ) → Lists p lo hi l → m ≤ length l → AtLeast p lo m
at_least_listed zero u h = enough
at_least_listed (suc m) (none g) h = absurd (omega arith)
at_least_listed {lo = lo} (suc m) (more {k = k} a c o g r) h = another a o (at_least_listed {lo = k + 1} m r (le_of_suc-le-suc h))

-- but for block x from second `from` on; x is 0 where there is no such block
pub record Useful (s : Settings) (x from : ℕ) (S : Shape) : Type 0 where
  pub at : (t n : ℕ) → 1 ≤ n → n < S.opened → S.view.opened (n + 1) ≤ t → t < S.view.closed n → t < OPEN → (n ≡ x → t < from)
      → AtLeast (λ k. Stands t (S.records n k)) 0 s.useful

module _ {s : Settings} where
  -- a record moves from a block that closed at that second
  pub useful_move : {y from now x k : ℕ} {S : Shape} {middle records : Records} {marks : Marks} {directory : ℕ → ℕ} → Useful s y from S
      → PutAt S.records middle x k (ended_at now (S.records x k)) → PutAt middle records S.opened S.fill (begun_at now (S.records x k))
      → S.view.closed x ≡ now → Useful s y from (appended S records marks directory)
  useful_move {now = now} {x} {k} {S} u e p c = record {
    at = λ t n a b d f g h. at_least_map (λ j w.
        rw (p.other n j (λ z. omega arith)) (place? x k n j
        (λ i i'.
        let old : Stands t (S.records x k) = rw (i, i') at w in
        let closed : S.view.closed n ≡ now = rw i c in
        let before : t < now = omega arith in
        rw (i, i', e.here) (record { begun = old.begun; lasts = before }))
        (λ i. rw (e.other n j i) w))) (u.at t n a b d f g h);
  }

  -- a record in the acceptor is no matter
  pub useful_set : {y from : ℕ} {S : Shape} {records : Records} {marks : Marks} {directory : ℕ → ℕ} {r : Record} → Useful s y from S
      → PutAt S.records records S.opened S.fill r → Useful s y from (appended S records marks directory)
  useful_set u p = record { at = λ t n a b d f g h. at_least_map (λ j w. rw (p.other n j (λ z. omega arith)) w) (u.at t n a b d f g h) }

  -- a record of block n ends: the block is to be judged
  pub useful_end : {now n k : ℕ} {S : Shape} {records : Records} {marks : Marks} {directory : ℕ → ℕ} → Useful s 0 0 S
      → PutAt S.records records n k (ended_at now (S.records n k))
      → Useful s n now (rewritten S S.fill records marks directory)
  useful_end {n = n} {k} {S} u e = record {
    at = λ t m a b d f g h. at_least_map (λ j w. place? n k m j
        (λ i i'.
        let old : Stands t (S.records n k) = rw (i, i') at w in
        rw (i, i', e.here) (record { begun = old.begun; lasts = h i }))
        (λ i. rw (e.other m j i) w)) (u.at t m a b d f g (λ z. absurd (omega arith)));
  }

  -- a block opens: the one before it is to be judged
  pub useful_open : {now : ℕ} {S : Shape} {w : BlockView} {records : Records} {marks : Marks} {times : ℕ → ℕ → ℕ} → Useful s 0 0 S
      → Opened S.view w S.opened now → Emptied S.records records (S.opened + 1)
      → Useful s S.opened now (opened_shape S w times records marks)
  useful_open {now} {S} {w} u e m = record {
    at = λ t n a b d f g h. is? n S.opened
        (λ z. let new : w.opened (n + 1) ≡ now = rw z e.opened.here in absurd (omega (arith, h z)))
        (λ z. at_least_map (λ j y. rw (m.other n j (omega arith)) y)
        (u.at t n a (omega arith) (omega (arith, e.opened.other (n + 1) (omega arith))) (omega (arith, e.closed.other n (omega arith))) g
        (λ y. absurd (omega arith))));
  }

  -- judged, it closes: from then on it is not open
  pub useful_close : {x now : ℕ} {S : Shape} {w : BlockView} → Useful s x now S → Unlinked S.view w x now → S.view.closed x ≡ OPEN
      → Useful s 0 0 (relinked_shape S w)
  useful_close {x} {now} {S} {w} u e o = record {
    at = λ t n a b d f g h. is? n x
        (λ z.
        let closed : w.closed n ≡ now = rw z e.closed.here in
        let was : S.view.closed n ≡ OPEN = rw z o in
        u.at t n a b (omega (arith, e.opened (n + 1))) (omega arith) g (λ _. omega arith))
        (λ z. u.at t n a b (omega (arith, e.opened (n + 1))) (omega (arith, e.closed.other n z)) g (λ y. absurd (z y)));
  }

  -- or it has q standing, which do so from then on
  pub useful_judged : {Due : ℕ → Type 0} {clock x now : ℕ} {log : Timeline} {S : Shape} → State s Due clock log S → Useful s x now S → clock ≤ now
      → s.useful ≤ length (slots_of (S.marks x 0) (S.marks x 1)) → Useful s 0 0 S
  useful_judged {x = x} {now} {S = S} i u later l = record {
    at = λ t n a b d f g h. is? n x
        (λ z. lt? t now (λ y. u.at t n a b d f g (λ _. y)) (λ y. stay t n z y g))
        (λ z. u.at t n a b d f g (λ y. absurd (z y)));
  }
    where
      stay : (t n : ℕ) → n ≡ x → now ≤ t → t < OPEN → AtLeast (λ k. Stands t (S.records n k)) 0 s.useful
      stay t n z y g =
          rw z (at_least_map (λ k o. stands_on i x k t (i.marked.unended x k o) (omega arith) g)
          (at_least_listed s.useful (slots-of (S.marks x)) l))

  -- an exception that is block 0 or the acceptor is none
  pub useful_all : {x now : ℕ} {S : Shape} → Useful s x now S → (1 ≤ x → S.opened ≤ x) → Useful s 0 0 S
  useful_all u h = record { at = λ t n a b d f g _. u.at t n a b d f g (λ q. absurd (omega (arith, h (omega arith)))) }

-- ---- records move
-- from S, the record of slot k of block x ends at second now (middle, midmarks) and begins anew in the acceptor's next slot, where the
-- directory finds it
pub record MovedAt (s : Settings) (S : Shape) (now x k : ℕ) (middle records : Records) (midmarks marks : Marks) (directory : ℕ → ℕ) : Type 0 where
  pub ends : PutAt S.records middle x k (ended_at now (S.records x k))
  pub begins : PutAt middle records S.opened S.fill (begun_at now (S.records x k))
  pub mark_off : PutBit S.marks midmarks x k 0
  pub mark_on : PutBit midmarks marks S.opened S.fill 1
  pub finds : Put S.directory directory (S.records x k).tag (place_of s S.opened S.fill)

module _ {s : Settings} {Due : ℕ → Type 0} {now : ℕ} {log : Timeline} {S : Shape} {x k : ℕ} {middle records : Records} {midmarks marks : Marks}
    {directory : ℕ → ℕ} where
  moved : State s Due now log S → MovedAt s S now x k middle records midmarks marks directory → now ≤ S.view.closed x → (S.records x k).to ≡ OPEN
      → 1 ≤ S.opened → S.fill < s.block → State s Due now log (appended S records marks directory)
  moved i e closes o low room =
      let known = (i.kept.good x k (i.kept.used x k (omega (arith, i.past)))).known in
      let forgotten = put_is S.directory (S.records x k).tag 0 in
      let finds : Put (λ n. cond (eqb (S.records x k).tag n) 0 (S.directory n)) directory (S.records x k).tag (place_of s S.opened S.fill) =
      record { here = e.finds.here; other = λ y d. e.finds.other y d ∙ sym (forgotten.other y d) } in
      let ended = end_state i (omega arith) i.past e.ends e.mark_off forgotten o closes in
      let begun = begin_state ended (omega arith) i.past e.begins e.mark_on finds refl refl known forgotten.here low room in
      let same = moved_log x k i.told (stands_on i x k now o (omega arith) i.past).begun o i.past in
      state_as begun (omega arith) i.past (told_alike same begun.told) begun.calm

-- in the midst of moving the records of block x, which closed at second now; the slots `rest` are left, from lo on
pub record Moving (s : Settings) (Due : ℕ → Type 0) (now : ℕ) (log : Timeline) (x : ℕ) (rest : List ℕ) (S : Shape) : Type 0 where
  pub state : State s (DueAnd Due x) now log S
  pub useful : Useful s 0 0 S
  pub closed_now : S.view.closed x ≡ now
  pub before : x < S.opened
  pub lo : ℕ
  pub done : (k : ℕ) → k < lo → (S.records x k).to ≢ OPEN
  pub pend : Pending S.records x lo rest

module _ {s : Settings} {Due : ℕ → Type 0} {now : ℕ} {log : Timeline} {x : ℕ} where
  pub moved_all : {S : Shape} → Moving s Due now log x [] S → State s Due now log S
  moved_all {S} m = let i = m.state in state_as i (omega arith) i.past i.told (λ n k d w. other n k w (i.calm n k d w))
    where
      none_left : (lo : ℕ) → ((k : ℕ) → k < lo → (S.records x k).to ≢ OPEN) → Pending S.records x lo [] → (k : ℕ) → (S.records x k).to ≢ OPEN
      none_left lo d (no_more h) k = lt? k lo (λ a. d k a) (λ a. h k a)

      other : (n k : ℕ) → (S.records n k).to ≡ OPEN → DueAnd Due x n → Due n
      other n k w (inl q) = q
      other n k w (inr e) = absurd (none_left m.lo m.done m.pend k (rw e at w))

  -- block x has left the row: its records are to move
  pub unlinked_moving : {clock : ℕ} (c : Cursor) (f : Memory) (l : List ℕ) → State s Due clock log (shape c f) → Useful s x now (shape c f) → clock ≤ now
      → now < OPEN → 1 ≤ x → x < c.opened → (view c f).closed x ≡ OPEN → Pending (records_of f) x 0 l
      → let z = run_on (unlink c x now) f in Moving s Due now log x l (shape z.0 z.1)
  unlinked_moving c f l i u later ends low inner o p =
      let e = unlink_effect c f x now low in
      subst⁻¹ (λ (S : Shape). Moving s Due now log x l S) (unlink_shape c x now f) (record {
        state = left_row i e later ends low inner o;
        useful = useful_close u e o;
        closed_now = e.closed.here;
        before = inner;
        lo = 0;
        done = λ k a. absurd (omega arith);
        pend = p;
      })

  moving_step : {k : ℕ} {l : List ℕ} {S : Shape} {middle records : Records} {midmarks marks : Marks} {directory : ℕ → ℕ}
      → Moving s Due now log x (k ∷ l) S
      → MovedAt s S now x k middle records midmarks marks directory → S.fill < s.block
      → Moving s Due now log x l (appended S records marks directory)
  moving_step {k} {l} {S} {records = records} {marks = marks} {directory = directory} m e room = go m.lo m.done m.pend
    where
      -- block x but for slot k
      others : (j : ℕ) → j ≢ k → records x j ≡ S.records x j
      others j d = e.begins.other x j (λ z. omega (arith, m.before)) ∙ e.ends.other x j (λ z. d z.1)

      ended : (records x k).to ≢ OPEN
      ended z =
          let y : now ≡ OPEN = rw (e.begins.other x k (λ w. omega (arith, m.before)), e.ends.here) at z in
          omega (arith, m.state.past)

      go : (lo : ℕ) → ((j : ℕ) → j < lo → (S.records x j).to ≢ OPEN) → Pending S.records x lo (k ∷ l)
          → Moving s Due now log x l (appended S records marks directory)
      go lo done (one_more a o between q) = record {
        state = moved m.state e (omega (arith, m.closed_now)) o (omega (arith, m.before)) room;
        useful = useful_move m.useful e.ends e.begins m.closed_now;
        closed_now = m.closed_now;
        before = m.before;
        lo = k + 1;
        done = λ j y. is? j k (λ z. rw z ended) (λ z. rw (others j z) (lt? j lo (λ b. done j b) (λ b. between j b (omega arith))));
        pend = pending_frame (λ j y. others j (omega arith)) q;
      }

-- what move_record does
pub move_effect : (s : Settings) (c : Cursor) (f : Memory) (now x k : ℕ) → let g = (run_on (end_record x k now) f).1 in
    let h = (run_on (put_record s c now (f (Slot x k tag_word)) (payload_at f x k)) g).1 in
    MovedAt s (shape c f) now x k (records_of g) (records_of h) (marks_of g) (marks_of h) (directory_of h)
unfolding end_record
move_effect s c f now x k =
    let g = (run_on (end_record x k now) f).1 in
    let tag = f (Slot x k tag_word) in
    let p = payload_at f x k in
    record {
      ends = end_records x k now f;
      begins = put_records s c now tag p g;
      mark_off = end_marks x k now f;
      mark_on = put_marks s c now tag p g;
      finds = put_directory s c now tag p g;
    }

module _ {s : Settings} where
  pub move_step : {Due : ℕ → Type 0} {now : ℕ} {log : Timeline} {x : ℕ} (k : ℕ) (l : List ℕ) (c : Cursor) (f : Memory)
      → Moving s Due now log x (k ∷ l) (shape c f) → c.fill < s.block
      → let z = run_on (move_record s x now k c) f in Moving s Due now log x l (shape z.0 z.1)
  unfolding move_record end_record put_record
  move_step {now = now} {x = x} k l c f m room = moving_step m (move_effect s c f now x k) room
