-- The invariant of the store (State), said of what a cursor and a memory show (Shape): links, index, records, standing bits, directory and
-- log hold together. It holds between the parts of a change too; then `Due` says which closed blocks still have records to move. Kept by
-- each part.
use Rattle.std.specs.Prelude.{◌≡◌, ◌≢◌, ◌⊎◌, ℕ, ◌+◌, ◌≤◌, ◌<◌, eqb}
use Rattle.std.proofs.Math.Path.{refl, subst⁻¹}
use Rattle.std.proofs.Common.{sym, ap, ◌∙◌, inl, inr, arith}
use Rattle.base.specs.Branch.{is?, cond_all}
use Rattle.base.specs.Slots.{slots_of}
use Rattle.layout.specs.declared.settings.Settings.{Settings}
use Rattle.layout.specs.declared.head.Cursor.{Cursor}
use Rattle.layout.specs.declared.address.Address.TheVariants.{Dir, Field, Slot}
use Rattle.layout.specs.Sizes.{OPEN}
use Rattle.layout.specs.Fields.{up_word, tag_word, to_word}
use Rattle.layout.specs.Settings.{Within}
use Rattle.layout.specs.Memory.{Memory, put}
use Rattle.layout.specs.Program.{run_on}
use Rattle.layout.specs.declared.payload.Payload.{Payload}
use Rattle.calls.specs.Placing.{place_of, open_block, unlink, end_record, put_record}
use Rattle.theory.specs.Row.{Linked, Unlinked, unlinked, opened, later, Put, BlockView}
use Rattle.theory.specs.Effects.{view, put_is, open_effect, records_of, directory_of, marks_of, end_records, end_marks, put_records, put_directory}
use Rattle.theory.specs.Effects.{put_marks, open_directory, open_marks_here, open_marks_other, open_records}
use Rattle.theory.specs.Times.{Indexed, indexed_open, indexed_same, times, open_enters}
use Rattle.theory.specs.Records.{Record, Records, Stands, place?, Kept, kept_later, kept_put, kept_end, kept_unlink, kept_open, Found, found_put}
use Rattle.theory.specs.Records.{found_end, found_open, PutAt, ended_at}
use Rattle.theory.specs.Timeline.{Timeline, Told, told_put, told_end, told_open, Telling, none, some, logged}
use Rattle.theory.specs.Marks.{Marks, Marked, marked_at, marked_open, Pending, pending_slots, PutBit}

pub record Shape : Type 0 where
  pub view : BlockView
  pub times : ℕ → ℕ → ℕ
  pub records : Records
  pub marks : Marks
  pub directory : ℕ → ℕ
  pub opened : ℕ
  pub fill : ℕ

abbrev pub shape : Cursor → Memory → Shape
shape c f = record {
  view = view c f;
  times = times f;
  records = records_of f;
  marks = marks_of f;
  directory = directory_of f;
  opened = c.opened;
  fill = c.fill;
}

pub record State (s : Settings) (Due : ℕ → Type 0) (clock : ℕ) (log : Timeline) (S : Shape) : Type 0 where
  pub past : clock < OPEN
  pub links : Linked S.view S.opened clock
  pub index : Indexed S.view.opened S.times S.opened
  pub kept : Kept S.records S.view s.block s.tags S.opened S.fill clock
  pub marked : Marked S.marks S.records
  pub found : Found s S.records S.directory
  pub told : Told S.records log
  -- an unended record of a closed block is still to move
  pub calm : (n k : ℕ) → S.view.closed n ≢ OPEN → (S.records n k).to ≡ OPEN → Due n

-- no closed block has records to move; and block x besides the others
abbrev pub NoneDue : ℕ → Type 0
NoneDue n = ⊥

abbrev pub DueAnd : (ℕ → Type 0) → ℕ → ℕ → Type 0
DueAnd Due x n = Due n ⊎ (n ≡ x)

-- a record alike ends alike
pub same_end : {r r' : Record} → r ≡ r' → r.to ≡ OPEN → r'.to ≡ OPEN
same_end e w = rw e at w

-- ---- what follows at once
module _ {s : Settings} {Due : ℕ → Type 0} {clock : ℕ} {log : Timeline} {S : Shape} (i : State s Due clock log S) where
  -- the next slot was never used
  pub next_unused : (S.records S.opened S.fill).to ≡ 0
  next_unused = is? (S.records S.opened S.fill).to 0 (λ z. z)
      (λ d. absurd (omega (arith, (i.kept.used S.opened S.fill (omega arith)).last refl)))

  -- a record that is unended stands from the clock on
  pub stands_on : (n k t : ℕ) → (S.records n k).to ≡ OPEN → clock ≤ t → t < OPEN → Stands t (S.records n k)
  stands_on n k t o a b = record { begun = omega (arith, (i.kept.good n k (i.kept.used n k (omega arith))).begun); lasts = omega arith }

  -- no tag has two of them
  pub alone : (n k m j : ℕ) → (S.records n k).to ≡ OPEN → (S.records m j).to ≡ OPEN → (S.records m j).tag ≡ (S.records n k).tag → (m ≡ n) × (j ≡ k)
  alone n k m j a b e =
      i.told.once clock n k m j i.past (stands_on n k clock a (omega arith) i.past) (stands_on m j clock b (omega arith) i.past) (sym e)

  -- a tag that the directory does not have stands nowhere from the clock on
  pub free : (tag : ℕ) → S.directory tag ≡ 0 → (t : ℕ) → clock ≤ t → t < OPEN → log t tag ≡ none
  free tag z t a b = go (log t tag) refl
    where
      go : (r : Telling) → log t tag ≡ r → r ≡ none
      go none e = refl
      go (some x) e =
          let w = i.told.whole t tag x b e in
          let g = i.kept.good w.0 w.1 (i.kept.used w.0 w.1 (omega (arith, w.2.lasts))) in
          absurd (is? (S.records w.0 w.1).to OPEN
          (λ o. let q : S.directory tag ≡ place_of s w.0 w.1 = ap S.directory (sym w.3) ∙ i.found.finds w.0 w.1 o in omega arith)
          (λ o. omega (arith, (g.ended o).0, w.2.lasts)))

  -- and a tag that the log does not have now is not in the directory
  pub not_found : (tag : ℕ) → log clock tag ≡ none → S.directory tag ≡ 0
  not_found tag e = is? (S.directory tag) 0 (λ z. z) (λ d.
      let p = i.found.found tag d in
      let w = i.told.sound clock p.0 p.1 i.past (stands_on p.0 p.1 clock p.2 (omega arith) i.past) in
      let y : log clock tag ≡ some (S.records p.0 p.1).payload = ap (log clock) (sym p.3) ∙ w in
      let z : ◌≡◌ {A = ℕ} 0 1 = cc in
      absurd (omega arith))

  -- the standing slots of a block, in order, are those of its unended records
  pub pending : (x : ℕ) → Within s → Pending S.records x 0 (slots_of (S.marks x 0) (S.marks x 1))
  pending x z = pending_slots x i.marked (λ k a w. omega (arith, z.most, (i.kept.used x k (omega arith)).slot))

  -- the same shape at a later second, of which its records tell another log and others have still to move
  pub state_as : {Due' : ℕ → Type 0} {now : ℕ} {log' : Timeline} → clock ≤ now → now < OPEN → Told S.records log'
      → ((n k : ℕ) → S.view.closed n ≢ OPEN → (S.records n k).to ≡ OPEN → Due' n) → State s Due' now log' S
  state_as a b t d = record {
    past = b;
    links = later i.links a;
    index = i.index;
    kept = kept_later i.kept a;
    marked = i.marked;
    found = i.found;
    told = t;
    calm = d;
  }

  -- time passes
  pub state_later : {now : ℕ} → clock ≤ now → now < OPEN → State s Due now log S
  state_later a b = state_as a b i.told i.calm

-- ---- a block leaves the row: its records have still to move
abbrev pub relinked_shape : Shape → BlockView → Shape
relinked_shape S w = record {
  view = w;
  times = S.times;
  records = S.records;
  marks = S.marks;
  directory = S.directory;
  opened = S.opened;
  fill = S.fill;
}

-- other records, bits and directory, with `fill` records in the acceptor; with one more than before; and a block more, which has none
abbrev pub rewritten : Shape → ℕ → Records → Marks → (ℕ → ℕ) → Shape
rewritten S fill records marks directory = record {
  view = S.view;
  times = S.times;
  records = records;
  marks = marks;
  directory = directory;
  opened = S.opened;
  fill = fill;
}

abbrev pub appended : Shape → Records → Marks → (ℕ → ℕ) → Shape
appended S records marks directory = rewritten S (S.fill + 1) records marks directory

abbrev pub opened_shape : Shape → BlockView → (ℕ → ℕ → ℕ) → Records → Marks → Shape
opened_shape S w times records marks =
    record { view = w; times = times; records = records; marks = marks; directory = S.directory; opened = S.opened + 1; fill = 0 }

pub unlink_shape : (c : Cursor) (x now : ℕ) (f : Memory)
    → let z = run_on (unlink c x now) f in shape z.0 z.1 ≡ relinked_shape (shape c f) (view z.0 z.1)
unfolding unlink
unlink_shape c x now f =
    cond_all (λ (z : Cursor × Memory). shape z.0 z.1 ≡ relinked_shape (shape c f) (view z.0 z.1)) (eqb (f (Field x up_word)) 0)
    (λ t. refl) (λ t. refl)

module _ {s : Settings} where
  pub left_row : {Due : ℕ → Type 0} {clock now x : ℕ} {log : Timeline} {S : Shape} {w : BlockView} → State s Due clock log S → Unlinked S.view w x now
      → clock ≤ now → now < OPEN → 1 ≤ x → x < S.opened → S.view.closed x ≡ OPEN → State s (DueAnd Due x) now log (relinked_shape S w)
  left_row {x = x} i e a b low inner o = record {
    past = b;
    links = unlinked i.links e low inner o a b;
    index = indexed_same i.index e.opened;
    kept = kept_unlink i.kept e a;
    marked = i.marked;
    found = i.found;
    told = i.told;
    calm = λ n k d w. is? n x (λ z. inr z) (λ z. inl (i.calm n k (λ y. d (e.closed.other n z ∙ y)) w));
  }

-- ---- a record begins or ends
module _ {s : Settings} {Due : ℕ → Type 0} {clock now : ℕ} {log : Timeline} {S : Shape} (i : State s Due clock log S) (passed : clock ≤ now)
    (ends : now < OPEN) where
  -- in the acceptor's next slot, under a tag that the directory does not have
  pub begin_state : {records : Records} {marks : Marks} {directory : ℕ → ℕ} {r : Record} → PutAt S.records records S.opened S.fill r
      → PutBit S.marks marks S.opened S.fill 1 → Put S.directory directory r.tag (place_of s S.opened S.fill) → r.from ≡ now
      → r.to ≡ OPEN → r.tag < s.tags → S.directory r.tag ≡ 0 → 1 ≤ S.opened → S.fill < s.block
      → State s Due now (logged now r.tag (some r.payload) log) (appended S records marks directory)
  begin_state {r = r} p b d from to known absent low room = record {
    past = ends;
    links = later i.links passed;
    index = i.index;
    kept = kept_put i.kept p passed from to known (i.links.opened S.opened low (omega arith)) low room ends;
    marked = marked_at i.marked b p (λ z. to) (λ z. refl);
    found = found_put i.found p to (next_unused i) absent d;
    told = told_put i.told p from to (next_unused i) (λ t a o. free i r.tag absent t (omega arith) o);
    calm = λ n k y w. place? S.opened S.fill n k
        (λ z _. absurd (y (rw z i.links.last)))
        (λ z. i.calm n k y (same_end (p.other n k z) w));
  }

  -- not after its block's closing
  pub end_state : {n k : ℕ} {records : Records} {marks : Marks} {directory : ℕ → ℕ} → PutAt S.records records n k (ended_at now (S.records n k))
      → PutBit S.marks marks n k 0 → Put S.directory directory (S.records n k).tag 0 → (S.records n k).to ≡ OPEN → now ≤ S.view.closed n
      → State s Due now (logged now (S.records n k).tag none log) (rewritten S S.fill records marks directory)
  end_state {n} {k} e b d o closes = record {
    past = ends;
    links = later i.links passed;
    index = i.index;
    kept = kept_end i.kept e passed closes o ends;
    marked = marked_at i.marked b e (λ z. absurd (omega arith)) (λ z. absurd (omega arith));
    found = found_end i.found e o ends (λ m j v t. alone i n k m j o v t) d;
    told = told_end i.told e (stands_on i n k now o passed ends).begun o ends;
    calm = λ m j y w. place? n k m j
        (λ z z'. let h : now ≡ OPEN = rw (z, z', e.here) at w in absurd (omega arith))
        (λ z. i.calm m j y (same_end (e.other m j z) w));
  }

-- ---- a block opens
pub open_cursor : (c : Cursor) (now : ℕ) (f : Memory)
    → let d = (run_on (open_block c now) f).0 in (d.opened ≡ c.opened + 1) × (d.fill ≡ 0)
unfolding open_block
open_cursor c now f =
    cond_all (λ (z : Cursor × Memory). (z.0.opened ≡ c.opened + 1) × (z.0.fill ≡ 0)) (eqb c.opened 0)
    (λ t. (refl, refl)) (λ t. (refl, refl))

pub open_shape : (c : Cursor) (now : ℕ) (f : Memory) → let z = run_on (open_block c now) f in
    shape z.0 z.1 ≡ opened_shape (shape c f) (view z.0 z.1) (times z.1) (records_of z.1) (marks_of z.1)
open_shape c now f = let z = run_on (open_block c now) f in
    λ i. record {
      view = view z.0 z.1;
      times = times z.1;
      records = records_of z.1;
      marks = marks_of z.1;
      directory = λ tag. open_directory c now f tag i;
      opened = (open_cursor c now f).0 i;
      fill = (open_cursor c now f).1 i;
    }

-- the record of a tag ended, and the tag forgotten
abbrev pub cleared_at : ℕ → ℕ → ℕ → ℕ → Memory → Memory
cleared_at n k now tag f = put (run_on (end_record n k now) f).1 (Dir tag) 0

module _ {s : Settings} {Due : ℕ → Type 0} {clock now : ℕ} {log : Timeline} (c : Cursor) (f : Memory) (i : State s Due clock log (shape c f))
    (passed : clock ≤ now) (ends : now < OPEN) where
  pub opened_block : (1 ≤ c.opened → c.fill ≡ s.block) → let z = run_on (open_block c now) f in State s Due now log (shape z.0 z.1)
  opened_block full =
      let e = open_effect c f now in
      let m = open_records c now f in
      let empty : (k : ℕ) → f (Slot (c.opened + 1) k to_word) ≡ 0 = λ k.
      is? (f (Slot (c.opened + 1) k to_word)) 0 (λ z. z) (λ d. absurd (omega (arith, (i.kept.used (c.opened + 1) k (omega arith)).high))) in
      subst⁻¹ (λ (S : Shape). State s Due now log S) (open_shape c now f) (record {
        past = ends;
        links = opened i.links e passed;
        index = indexed_open i.index e.opened (open_enters c now f) i.links.opened passed;
        kept = kept_open i.kept e m full passed;
        marked = marked_open i.marked m (open_marks_here c now f) (open_marks_other c now f);
        found = found_open i.found m empty;
        told = told_open i.told m empty;
        calm = λ n k d w.
            let old : n ≢ c.opened + 1 = λ z. d (rw z e.closed.here) in
            i.calm n k (λ y. d (e.closed.other n old ∙ y)) (same_end (m.other n k old) w);
      })

  -- ---- a set, with room in the acceptor
  pub set_record : (tag : ℕ) (p : Payload) → 1 ≤ c.opened → c.fill < s.block → tag < s.tags → f (Dir tag) ≡ 0
      → let z = run_on (put_record s c now tag p) f in State s Due now (logged now tag (some p) log) (shape z.0 z.1)
  unfolding put_record
  set_record tag p low room known d = begin_state i passed ends (put_records s c now tag p f) (put_marks s c now tag p f)
      (put_directory s c now tag p f) refl refl known d low room

  -- ---- a clear: the record ends, and the directory forgets it
  pub clear_record : (n k tag : ℕ) → f (Slot n k to_word) ≡ OPEN → f (Slot n k tag_word) ≡ tag → (view c f).closed n ≡ OPEN
      → State s Due now (logged now tag none log) (shape c (cleared_at n k now tag f))
  unfolding end_record
  clear_record n k tag o is-tag y = rw (← is-tag)
      (end_state i passed ends (end_records n k now f) (end_marks n k now f) (put_is (directory_of f) (f (Slot n k tag_word)) 0) o (omega arith))
