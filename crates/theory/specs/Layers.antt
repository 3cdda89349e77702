-- WRITE AND JUDGE CALL EACH OTHER in document 01; the book's `writes` has layers instead. The two are the same: with q ≤ b, for every list of blocks,
-- `writes layers` meets document 01's rule, whatever meets it is `writes layers`, and one layer or more give the same book. For a write with room
-- only appends, and the copies of a former last block all find room in the new one: what a second judging would write is never met.
use Rattle.std.specs.Prelude.{◌≡◌, refl, List, [], ◌∷◌, ◌++◌, cond, ℕ, zero, suc, ◌+◌, ◌≤◌, ◌<◌, eqb, ltb, length}
use Rattle.std.proofs.Common.{sym, ap, ◌∙◌, arith, length-append, ne_eqb, ltb-true}
use Rattle.std.proofs.lemmas.Bool.{eqb-false}
use Rattle.base.specs.Branch.{cond_rel}
use Rattle.layout.specs.Sizes.{OPEN}
use Rattle.calls.specs.Book.{Block, standing_tags, opens_at, on_block, entries_of, closes_at, last_of, appends, in_order, judges, writes, layers}
use Rattle.theory.specs.BookLaws.{noted, on_before, appends_last, entries_last}

-- a write within the book
abbrev pub Write : Type 0
Write = ℕ → List Block → List Block

-- Document 01's rule, with `write` for the writes within it: if there is no block or the last has b records, a block opens at s as the last, and the
-- former last, if any, is judged; then the tag goes to the end of the last block.
abbrev pub write_over : Write → ℕ → ℕ → ℕ → Write
write_over write b q s tag blocks =
    appends tag
    (cond (eqb (length blocks) 0) (opens_at s blocks)
    (cond (eqb (length (entries_of (last_of blocks) blocks)) b) (judges write q s (last_of blocks) (opens_at s blocks)) blocks))

-- it writes by its own rule
pub record Rule (b q s : ℕ) (write : Write) : Type 0 where
  pub is : (tag : ℕ) (blocks : List Block) → write tag blocks ≡ write_over write b q s tag blocks

-- with room in the last block it only appends
pub record Appending (b : ℕ) (write : Write) : Type 0 where
  pub room : (tag : ℕ) (blocks : List Block) → 0 < length blocks → length (entries_of (last_of blocks) blocks) < b
      → write tag blocks ≡ appends tag blocks

-- whatever the inner write is
pub over_appends : (write : Write) (b q s : ℕ) → Appending b (write_over write b q s)
over_appends write b q s = record {
  room = λ tag blocks some less.
      let z = ne_eqb (length blocks) 0 (omega arith) in
      let f = ne_eqb (length (entries_of (last_of blocks) blocks)) b (omega arith) in
      rw (z, f);
}

-- so every layer does, the innermost too
pub writes_appends : (n b q s : ℕ) → Appending b (writes n b q s)
unfolding writes
writes_appends zero b q s = record { room = λ tag blocks some less. refl }
writes_appends (suc n) b q s = over_appends (writes n b q s) b q s

module _ {b : ℕ} {write : Write} (a : Appending b write) where
  -- tags for all of which the last block has room
  order_appends : (tags : List ℕ) (l : List Block) (k : Block) → length k.entries + length tags ≤ b
      → in_order write tags (l ++ (k ∷ [])) ≡ in_order appends tags (l ++ (k ∷ []))
  order_appends [] l k h = refl
  order_appends (tag ∷ tags) l k h =
      let some : 0 < length (l ++ (k ∷ [])) = rw length-append (omega arith) in
      let less : length (entries_of (last_of (l ++ (k ∷ []))) (l ++ (k ∷ []))) < b = rw entries_last (omega arith) in
      let fits : length (noted tag k).entries + length tags ≤ b = rw length-append (omega arith) in
      ap (in_order write tags) (a.room tag (l ++ (k ∷ [])) some less ∙ appends_last tag l k)
      ∙ order_appends tags l (noted tag k) fits ∙ ap (in_order appends tags) (sym (appends_last tag l k))

  -- the former last block is judged: its copies are fewer than q, and the new one is empty
  judge_appends : (q s : ℕ) (blocks : List Block) → q ≤ b → 0 < length blocks
      → judges write q s (last_of blocks) (opens_at s blocks) ≡ judges appends q s (last_of blocks) (opens_at s blocks)
  judge_appends q s blocks fit some =
      let tags = standing_tags (entries_of (last_of blocks) (opens_at s blocks)) in
      let e = on_before (last_of blocks) (closes_at s) blocks (record { opened = s; closed = OPEN; entries = [] } ∷ []) (omega arith) in
      cond_rel (λ (x y : List Block). x ≡ y) {b = ltb (length tags) q} refl
      (λ t. rw e (order_appends tags (on_block (last_of blocks) (closes_at s) blocks) (record { opened = s; closed = OPEN; entries = [] })
      (omega (arith, ltb-true (length tags) q t))))
      (λ t. refl)

module _ {b q : ℕ} (s : ℕ) (fit : q ≤ b) where
  -- the writes within a write do not matter, if they only append where there is room
  over_same : {write other : Write} → Appending b write → Appending b other → (tag : ℕ) (blocks : List Block)
      → write_over write b q s tag blocks ≡ write_over other b q s tag blocks
  over_same a c tag blocks =
      ap (appends tag) (cond_rel (λ (x y : List Block). x ≡ y) {b = eqb (length blocks) 0} refl (λ e. refl)
      (λ e.
      let some : 0 < length blocks = omega (arith, eqb-false (length blocks) 0 e) in
      cond_rel (λ (x y : List Block). x ≡ y) {b = eqb (length (entries_of (last_of blocks) blocks)) b} refl
      (λ f. judge_appends a q s blocks fit some ∙ sym (judge_appends c q s blocks fit some)) (λ f. refl)))

  -- one layer or more: the same book
  pub write_layers : (n tag : ℕ) (blocks : List Block) → writes (suc n) b q s tag blocks ≡ writes layers b q s tag blocks
  unfolding writes
  write_layers n tag blocks = over_same (writes_appends n b q s) (writes_appends 1 b q s) tag blocks

  -- the book's write meets document 01's rule, and nothing else does
  pub layers_rule : Rule b q s (writes layers b q s)
  unfolding writes
  layers_rule = record { is = λ tag blocks. over_same (writes_appends 1 b q s) (writes_appends layers b q s) tag blocks }

  pub rule_layers : {write : Write} → Rule b q s write → (tag : ℕ) (blocks : List Block) → write tag blocks ≡ writes layers b q s tag blocks
  unfolding writes
  rule_layers {write} r tag blocks =
      let a : Appending b write = record { room = λ g l some less. r.is g l ∙ (over_appends write b q s).room g l some less } in
      r.is tag blocks ∙ over_same a (writes_appends 1 b q s) tag blocks
