-- The slots of a block, and the blocks, one after another: where noting them begins, where it ends,
-- and where it stops at a tag of D or more.
use Rattle.std.specs.Prelude.{◌≡◌, Bool, true, false, replicate, Result, Ok, Err}
use Rattle.std.proofs.Common.{sym, ap, ◌∙◌, add-mul}
use mathlib.Core.List.{List, [], ◌∷◌, ◌++◌, append-nil, append_assoc}
use Prim.Native.Nat.{ℕ, suc, ◌+◌, ◌*◌, ◌-◌, ◌≤◌, ◌<◌}
use native.Mathlib.Omega.{arith}
use Rattle.base.specs.Lists.{joined}
use Rattle.base.specs.ListLaws.{joined_none, joined_last, joined_grows, those_append}
use Rattle.layout.specs.declared.settings.Settings.{Settings}
use Rattle.calls.specs.Walk.{Reader}
use Rattle.calls.specs.Range.{PlacedRecord, record_in, is_read, block_records, read_records, stood_in, crossing}
use Rattle.calls.specs.Window.{unknown_tag}
use Rattle.queries.specs.declared.unsound.Unsound.{Unsound}
use Rattle.window.specs.declared.span.Span.{Span}
use Rattle.window.specs.Noted.{reader_of, records_to, stood, blocks_stood, Noted, Notes, noted, unknown, NotedBlocks, NotesBlocks, NotedTo, NotesTo, NotesAll}
use Rattle.window.specs.NotedLaws.{unknown_left, noted_none, noted_wider}

-- ---- what noting answered
pub notes_noted : {s : Settings} {R : Reader} {l : List PlacedRecord} {most : ℕ} {x : Result (Unit {0}) Unsound} {u : Unit {0}} {best : List ℕ}
    → Notes s R l most x best → x ≡ Ok u → Noted s R l most best
notes_noted (noted n) e = n
notes_noted (unknown f) e = cc

pub notes_unknown : {s : Settings} {R : Reader} {l : List PlacedRecord} {most : ℕ} {x : Result (Unit {0}) Unsound} {u : Unsound} {best : List ℕ}
    → Notes s R l most x best → x ≡ Err u → unknown_tag s.tags l ≡ true
notes_unknown (noted n) e = cc
notes_unknown (unknown f) e = f

module _ (w : Span) where
  abbrev s : Settings
  s = w.opened.head.settings

  abbrev R : Reader
  R = reader_of w

  -- more records leave a tag of D or more unknown
  abbrev Unknown : List PlacedRecord → Type 0
  Unknown l = unknown_tag s.tags (stood w.first w.last l) ≡ true

  unknown_more : (l m : List PlacedRecord) → Unknown l → Unknown (l ++ m)
  unknown_more l m e = rw (those_append (stood_in w.first w.last) l m) (unknown_left s.tags (stood w.first w.last l) (stood w.first w.last m) e)

  -- ---- block n
  module _ (n : ℕ) where
    -- the blocks up to it are those before it, and its own records
    blocks_last : 1 ≤ n → read_records w.first w.last s R n ≡ read_records w.first w.last s R (n - 1) ++ block_records w.first w.last s n (R.block n)
    unfolding read_records
    blocks_last h =
        let e : suc (n - 1) ≡ n = omega arith in
        joined_last (λ m. block_records w.first w.last s (suc m) (R.block (suc m))) n h ∙ rw e

    block_all : is_read w.first w.last (R.block n) ≡ true → 1 ≤ n → read_records w.first w.last s R n ≡ records_to w.first w.last s R n s.block
    unfolding records_to block_records
    block_all e h = blocks_last h ∙ rw e

    block_none : is_read w.first w.last (R.block n) ≡ false → 1 ≤ n → read_records w.first w.last s R n ≡ read_records w.first w.last s R (n - 1)
    unfolding block_records
    block_none e h = blocks_last h ∙ rw e (append-nil (read_records w.first w.last s R (n - 1)))

    records_none : records_to w.first w.last s R n 0 ≡ read_records w.first w.last s R (n - 1)
    unfolding records_to
    records_none = rw (joined_none (λ j. record_in s n (R.block n) j ∷ [])) (append-nil (read_records w.first w.last s R (n - 1)))

    -- before its first slot
    pub block_begin : {best : List ℕ} → NotedBlocks w (n - 1) best
        → NotedTo w n 0 best
    block_begin {best} so_far = rw records_none (noted_wider (omega arith) so_far)

    places_all : 1 ≤ n → (n - 1) * s.block + s.block ≡ n * s.block
    places_all h = let e : n - 1 + 1 ≡ n = omega arith in let f = add-mul (n - 1) 1 s.block in omega (arith, ap (λ (x : ℕ). x * s.block) e)

    module _ (h : 1 ≤ n) {block : List ℕ} (is-block : block ≡ R.block n) {b : Bool} (test : b ≡ is_read w.first w.last block) where
      abbrev After : Result (Unit {0}) Unsound → List ℕ → Type 0
      After = NotesBlocks w n

      -- a block that is not read
      pub block_passed : b ≡ false → {best : List ℕ} → NotedBlocks w (n - 1) best
          → After (Ok tt) best
      block_passed e {best} so_far =
          let d : is_read w.first w.last (R.block n) ≡ false = rw is-block at (sym test ∙ e) in
          noted {best = best} (rw (block_none d h) (noted_wider (omega (arith, places_all h)) so_far))

      module _ (e : b ≡ true) where
        read_is : is_read w.first w.last (R.block n) ≡ true
        read_is = rw is-block at (sym test ∙ e)

        -- after its last slot
        pub block_noted : {k : ℕ} {best : List ℕ} → k ≡ s.block → NotedTo w n k best → After (Ok tt) best
        block_noted {k} {best} g so_far =
            let z : NotedTo w n s.block best = rw g at so_far in
            noted {best = best} (rw (block_all read_is h) (noted_wider (omega (arith, places_all h)) z))

        -- a slot stopped it
        pub block_unknown : {k : ℕ} {best : List ℕ} → k < s.block → {x : Result (Unit {0}) Unsound} {u : Unsound} → NotesTo w n (k + 1) x best → x ≡ Err u
            → After (Err u) best
        unfolding records_to
        block_unknown {k} {best = best} l found z =
            let all = read_records w.first w.last s R (n - 1) in
            let slots : ℕ → List PlacedRecord = λ j. record_in s n (R.block n) j ∷ [] in
            let grow : (a m : List PlacedRecord) → Unknown (all ++ a) → Unknown (all ++ (a ++ m)) =
            λ a m e. rw (append_assoc all a m) at (unknown_more (all ++ a) m e) in
            unknown {best = best} (rw (block_all read_is h)
            (joined_grows slots (λ m. Unknown (all ++ m)) grow (k + 1) s.block (omega arith) (notes_unknown found z)))

  -- ---- the blocks
  pub blocks_begin : {best : List ℕ} → best ≡ replicate 4096 0 → NotedBlocks w (1 - 1) best
  unfolding read_records joined
  blocks_begin e = rw e (noted_none ((1 - 1) * s.block))

  pub blocks_next : (n : ℕ) {x : Result (Unit {0}) Unsound} {u : Unit {0}} {best : List ℕ} → NotesBlocks w n x best → x ≡ Ok u
      → NotedBlocks w (n + 1 - 1) best
  blocks_next n found z = let e : n + 1 - 1 ≡ n = omega arith in rw e (notes_noted found z)

  -- ---- all blocks of the store
  crossing_is : crossing w.first w.last w.opened.store.now ≡ blocks_stood w w.opened.head.cursor.opened
  unfolding crossing
  crossing_is = rw w.opened.readable.is

  pub blocks_noted : {n : ℕ} {best : List ℕ} → n ≡ w.opened.head.cursor.opened → NotedBlocks w n best → NotesAll w (Ok tt) best
  blocks_noted {best = best} e so_far = noted {best = best} (rw crossing_is (rw e at so_far))

  pub blocks_unknown : {n : ℕ} {x : Result (Unit {0}) Unsound} {u : Unsound} {best : List ℕ} → n ≤ w.opened.head.cursor.opened → NotesBlocks w n x best → x ≡ Err u
      → NotesAll w (Err u) best
  unfolding read_records
  blocks_unknown {n} {best = best} l found z =
      unknown {best = best} (rw crossing_is
      (joined_grows (λ m. block_records w.first w.last s (suc m) (R.block (suc m))) Unknown unknown_more
      n w.opened.head.cursor.opened l (notes_unknown found z)))
