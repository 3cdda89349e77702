-- WHAT THE PARTS OF A CHANGE DO TO THE BOOK that the store shows: a record that is put or moved, a block that leaves the row, opens or is judged are the
-- book's own steps. Records that move one after another, each by a write, are in the midst of it (Writing).
use Rattle.std.specs.Prelude.{◌≡◌, ◌≢◌, cond, List, ◌∷◌, map, ℕ, ◌-◌, ◌≤◌, ◌<◌, ltb, length}
use Rattle.std.proofs.Math.Path.{refl, ap}
use Rattle.std.proofs.Common.{◌∙◌, arith}
use Rattle.std.proofs.lemmas.List.{length-map}
use Rattle.base.specs.Slots.{slots_of}
use Rattle.layout.specs.declared.settings.Settings.{Settings}
use Rattle.layout.specs.declared.head.Cursor.{Cursor}
use Rattle.layout.specs.declared.address.Address.TheVariants.{Bits, Slot}
use Rattle.layout.specs.Sizes.{OPEN}
use Rattle.layout.specs.Fields.{tag_word}
use Rattle.layout.specs.Settings.{Within}
use Rattle.layout.specs.Memory.{Memory}
use Rattle.layout.specs.Program.{run_on}
use Rattle.layout.specs.declared.payload.Payload.{Payload}
use Rattle.calls.specs.Placing.{open_block, unlink, end_record, put_record, move_record}
use Rattle.calls.specs.Book.{Block, standing_tags, opens_at, on_block, entries_of, closes_at, appends, in_order, judges}
use Rattle.theory.specs.Effects.{view, unlink_effect, open_effect, records_of, put_records, open_records}
use Rattle.theory.specs.Records.{Record}
use Rattle.theory.specs.Timeline.{Timeline}
use Rattle.theory.specs.State.{Shape, shape, State, pending, unlink_shape, open_shape}
use Rattle.theory.specs.Moving.{move_effect}
use Rattle.theory.specs.Layers.{Write}
use Rattle.theory.specs.BookOf.{blocks_in, book_opens, book_appends, book_moves, book_closes, entry_same, book_tags}

-- In the midst of moving the records of block x, each by `write`: what is left to write gives from here the book that it gave from the start.
pub record Writing (s : Settings) (Walk : List ℕ → Shape → Type 0) (write : Write) (x : ℕ) (tag : ℕ → ℕ) (end : List Block)
    (rest : List ℕ) (S : Shape) : Type 0 where
  pub walk : Walk rest S
  pub tags : (k : ℕ) → (S.records x k).tag ≡ tag k
  pub book : in_order write (map tag rest) (blocks_in s S) ≡ end

module _ {s : Settings} {Walk : List ℕ → Shape → Type 0} {write : Write} {x : ℕ} {tag : ℕ → ℕ} {end : List Block} where
  pub written : {k : ℕ} {l : List ℕ} {S T : Shape} → Writing s Walk write x tag end (k ∷ l) S → Walk l T
      → ((j : ℕ) → (T.records x j).tag ≡ (S.records x j).tag) → blocks_in s T ≡ write (S.records x k).tag (blocks_in s S)
      → Writing s Walk write x tag end l T
  written {k} {l} {S} m w same b = record {
    walk = w;
    tags = λ j. same j ∙ m.tags j;
    book = ap (in_order write (map tag l)) (b ∙ ap (λ (g : ℕ). write g (blocks_in s S)) (m.tags k)) ∙ m.book;
  }

module _ (s : Settings) where
  -- ---- a record goes to the end of the acceptor
  pub put_book : (c : Cursor) (f : Memory) (now tag : ℕ) (p : Payload) → 1 ≤ c.opened → (view c f).closed c.opened ≡ OPEN
      → let z = run_on (put_record s c now tag p) f in blocks_in s (shape z.0 z.1) ≡ appends tag (blocks_in s (shape c f))
  unfolding put_record
  put_book c f now tag p some o =
      let z = run_on (put_record s c now tag p) f in
      let e = put_records s c now tag p f in
      let r : Record = record { tag = tag; payload = p; from = now; to = OPEN } in
      book_appends s.block (shape c f) (records_of z.1) r some o refl e.here
      (λ m k d. entry_same (shape c f) (shape z.0 z.1) m k refl (e.other m k d))

  -- ---- a record of a closed block moves
  module _ (c : Cursor) (f : Memory) (x k now : ℕ) (before : x < c.opened) where
    pub move_book : (view c f).closed c.opened ≡ OPEN → (view c f).closed x ≢ OPEN
        → let z = run_on (move_record s x now k c) f in blocks_in s (shape z.0 z.1) ≡ appends (f (Slot x k tag_word)) (blocks_in s (shape c f))
    unfolding move_record end_record put_record
    move_book o d =
        let e = move_effect s c f now x k in
        book_moves s.block (shape c f) (omega arith) o d e.ends e.begins

    pub move_tags : let z = run_on (move_record s x now k c) f in (j : ℕ) → z.1 (Slot x j tag_word) ≡ f (Slot x j tag_word)
    unfolding move_record end_record put_record
    move_tags j = ap (λ (r : Record). r.tag) ((move_effect s c f now x k).begins.other x j (λ z. omega arith))

  -- ---- a block leaves the row
  module _ (c : Cursor) (f : Memory) (x now : ℕ) (low : 1 ≤ x) (ends : now < OPEN) where
    pub unlink_book : let z = run_on (unlink c x now) f in blocks_in s (shape z.0 z.1) ≡ on_block (x - 1) (closes_at now) (blocks_in s (shape c f))
    unlink_book = ap (blocks_in s) (unlink_shape c x now f) ∙ book_closes s.block (shape c f) (unlink_effect c f x now low) ends low

    -- its records are then to be written
    pub unlink_writing : {Walk : List ℕ → Shape → Type 0} (write : Write) (l : List ℕ)
        → let z = run_on (unlink c x now) f in Walk l (shape z.0 z.1)
        → let tag : ℕ → ℕ = λ k. f (Slot x k tag_word) in
        Writing s Walk write x tag (in_order write (map tag l) (on_block (x - 1) (closes_at now) (blocks_in s (shape c f)))) l (shape z.0 z.1)
    unlink_writing write l w =
        let z = run_on (unlink c x now) f in
        record {
          walk = w;
          tags = λ k. ap (λ (S : Shape). (S.records x k).tag) (unlink_shape c x now f);
          book = ap (in_order write (map (λ k. f (Slot x k tag_word)) l)) unlink_book;
        }

  -- ---- a block opens
  pub open_book : (c : Cursor) (f : Memory) (now : ℕ) → (1 ≤ c.opened → c.fill ≡ s.block)
      → let z = run_on (open_block c now) f in blocks_in s (shape z.0 z.1) ≡ opens_at now (blocks_in s (shape c f))
  open_book c f now full =
      ap (blocks_in s) (open_shape c now f) ∙ book_opens s.block (shape c f) (open_effect c f now) (open_records c now f) full

  -- ---- an open block that is not the acceptor is judged: the book does so by its standing slots
  pub judges_slots : {Due : ℕ → Type 0} {clock : ℕ} {log : Timeline} (write : Write) (c : Cursor) (f : Memory) (x now : ℕ)
      → State s Due clock log (shape c f) → Within s → 1 ≤ x → x < c.opened → (view c f).closed x ≡ OPEN
      → let l = slots_of (f (Bits x 0)) (f (Bits x 1)) in let blocks = blocks_in s (shape c f) in
      judges write s.useful now (x - 1) blocks
      ≡ cond (ltb (length l) s.useful) (in_order write (map (λ k. f (Slot x k tag_word)) l) (on_block (x - 1) (closes_at now) blocks)) blocks
  judges_slots write c f x now i w low inner o =
      let l = slots_of (f (Bits x 0)) (f (Bits x 1)) in
      let blocks = blocks_in s (shape c f) in
      let tag : ℕ → ℕ = λ k. f (Slot x k tag_word) in
      let closed = on_block (x - 1) (closes_at now) blocks in
      let t : standing_tags (entries_of (x - 1) blocks) ≡ map tag l =
      book_tags s.block (shape c f) x low inner o (λ k e. (i.kept.used x k (omega arith)).slot) (pending i x w) in
      ap (λ (m : List ℕ). cond (ltb (length m) s.useful) (in_order write m closed) blocks) t
      ∙ ap (λ (n : ℕ). cond (ltb n s.useful) (in_order write (map tag l) closed) blocks) (length-map l tag)
