-- Refusal 12 has no case on a register at rest: for any words g that hold its memory f at every address of the store, each place that the
-- directory has and each open block is sound, and so are set, clear and new reading. The copies that refusal 13 counts are the memory's
-- too.
use Rattle.std.specs.Prelude.{◌≡◌, refl, ◌≢◌, Bool, ◌&&◌, ◌||◌, List, ℕ, ◌+◌, ◌*◌, ◌-◌, ◌/◌, ◌%◌, ◌≤◌, ◌<◌, ltb}
use Rattle.std.proofs.Common.{sym, ◌∙◌, arith}
use Rattle.std.proofs.Math.Path.{ap}
use Rattle.std.proofs.Math.Bool.{true, false, not}
use Rattle.std.proofs.Math.Nat.{mul-le-mul_right, add-mul}
use Rattle.std.proofs.Math.Dec.{eqb, leb}
use borrow.Author.Tests.{eqb-false, eq-eqb, ne_eqb, lt-ltb, le-ltb, lt-leb, le-leb}
use Rattle.base.specs.Branch.{is?, lt?, by_test}
use Rattle.base.specs.Ones.{Lists, none, more}
use Rattle.base.specs.Slots.{bit_of, slots-of}
use Rattle.layout.specs.declared.settings.Settings.{Settings}
use Rattle.layout.specs.declared.head.Cursor.{Cursor}
use Rattle.layout.specs.declared.address.Address.TheVariants.{Dir, Field, Bits, Slot}
use Rattle.layout.specs.Sizes.{OPEN}
use Rattle.layout.specs.Fields.{up_word, right_word, tag_word}
use Rattle.layout.specs.Address.{Valid, Numbered}
use Rattle.layout.specs.Memory.{Memory}
use Rattle.layout.specs.Interp.{Same}
use Rattle.layout.specs.Head.{placed}
use Rattle.layout.specs.declared.standing.Standing.{Standing}
use Rattle.layout.specs.Standing.{stands, block_bits}
use Rattle.calls.specs.Placing.{place_of, block_of, slot_of}
use Rattle.calls.specs.Refusals.{opens, acceptor_closes, any_of, tag_block, closes, copies, after_clear}
use Rattle.calls.specs.Refusals.{bad_place, bad_block, unsound_set, unsound_clear}
use Rattle.theory.specs.Timeline.{Timeline}
use Rattle.theory.specs.Effects.{view, marks_of}
use Rattle.theory.specs.Changing.{place_stands, open_block, PlaceStands}
use Rattle.theory.specs.Rest.{Rest, head_with, copies_of}

-- ---- tests that are false
and_no : (a : Bool) {b : Bool} → b ≡ false → (a && b) ≡ false
and_no true e = e
and_no false e = refl

or_no : {a b : Bool} → a ≡ false → b ≡ false → (a || b) ≡ false
or_no e f = rw (e, f)

-- ---- the bit of a slot, by word
pub stands_bit : (w : ℕ → ℕ) (k : ℕ) → k < 64 → stands (record { low = w 0; high = w 1 }) k ≡ eqb (bit_of w k) 1
unfolding stands
stands_bit w k a = lt? k 32
    (λ b.
    let e : k % 32 ≡ k = omega arith in
    let d : k / 32 ≡ 0 = omega arith in
    rw (lt-ltb k 32 b, e, d))
    (λ b.
    let e : k % 32 ≡ k - 32 = omega arith in
    let d : k / 32 ≡ 1 = omega arith in
    rw (le-ltb k 32 b, e, d))

module _ {s : Settings} {log : Timeline} (c : Cursor) (f : Memory) (i : Rest s log c f) (g : Memory) (same : Same g (Valid s) f) where
  -- ---- an open block
  slots_sound : (n : ℕ) → Numbered s n → {lo hi : ℕ} {l : List ℕ} → Lists (λ k. bit_of (marks_of f n) k ≡ 1) lo hi l
      → any_of (λ k. leb s.block k || leb s.tags (g (Slot n k tag_word))) l ≡ false
  slots_sound n nn (none h) = refl
  slots_sound n nn (more {k = k} a b o h r) =
      let st = i.full.state in
      let p = st.kept.used n k (omega (arith, st.marked.unended n k o)) in
      let e : g (Slot n k tag_word) ≡ f (Slot n k tag_word) = same.at (Slot n k tag_word) (nn, p.slot, omega arith) in
      let known : leb s.tags (g (Slot n k tag_word)) ≡ false = rw e (lt-leb s.tags (f (Slot n k tag_word)) (st.kept.good n k p).known) in
      or_no (or_no (lt-leb s.block k p.slot) known) (slots_sound n nn r)

  same_bits : (n w : ℕ) → Numbered s n → w < 2 → g (Bits n w) ≡ f (Bits n w)
  same_bits n w nn h = same.at (Bits n w) (nn, h)

  pub block_sound : (n : ℕ) → 1 ≤ n → n ≤ c.opened → (view c f).closed n ≡ OPEN → bad_block (head_with s c) g n ≡ false
  unfolding bad_block
  block_sound n low high o =
      let st = i.full.state in
      let nn : Numbered s n = record { low = low; high = omega (arith, i.limit) } in
      let up = same.at (Field n up_word) (nn, omega arith) in
      let right = same.at (Field n right_word) (nn, omega arith) in
      or_no (or_no (lt-leb n (g (Field n up_word)) (omega (arith, (st.links.row n low high o).up)))
      (by_test (eqb n c.opened) (λ t. (not t && not (ltb n (g (Field n right_word)) && leb (g (Field n right_word)) c.opened)) ≡ false)
      (λ e. refl)
      (λ e.
      let next = st.links.next n (omega (arith, eqb-false n c.opened e)) o in
      let r : f (Field n right_word) ≡ (view c f).right n = simp (ne_eqb n 0 (omega arith)) in
      simp (lt-ltb n (g (Field n right_word)) (omega (arith, next.above)), le-leb (g (Field n right_word)) c.opened (omega (arith, next.below))))))
      (rw (same_bits n 0 nn (omega arith), same_bits n 1 nn (omega arith)) (slots_sound n nn (slots-of (marks_of f n))))

  -- the acceptor is one
  acceptor_sound : (b : Standing) (m : ℕ) → (acceptor_closes (head_with s c) b m && bad_block (head_with s c) g c.opened) ≡ false
  acceptor_sound b m = is? c.opened 0
      (λ z. let e : acceptor_closes (head_with s c) b m ≡ false = and_no (opens (head_with s c) m) (simp z) in rw e)
      (λ d. and_no (acceptor_closes (head_with s c) b m) (block_sound c.opened (omega arith) (omega arith) i.full.state.links.last))

  pub set_sound : unsound_set (head_with s c) g ≡ false
  unfolding unsound_set
  set_sound = acceptor_sound (block_bits g c.opened) 1

  -- ---- a place that the directory has
  module _ (tag : ℕ) (known : tag < s.tags) (d : f (Dir tag) ≢ 0) where
    same_place : g (Dir tag) ≡ f (Dir tag)
    same_place = same.at (Dir tag) known

    abbrev n : ℕ
    n = block_of s (f (Dir tag))

    abbrev k : ℕ
    k = slot_of s (f (Dir tag))

    at_place : PlaceStands s c f tag n k
    at_place = place_stands c f tag i.full.state d

    place_numbered : Numbered s n
    place_numbered = record { low = at_place.placed.low; high = omega (arith, at_place.placed.high, i.limit) }

    -- it is one of the records placed
    place_low : f (Dir tag) ≤ placed (head_with s c)
    unfolding placed
    place_low =
        let p = at_place.placed in
        let e : f (Dir tag) ≡ place_of s n k = ap (λ (y : ℕ). f (Dir y)) (sym at_place.tagged) ∙ i.full.state.found.finds n k at_place.unended in
        let some : eqb c.opened 0 ≡ false = ne_eqb c.opened 0 (omega (arith, p.low, p.high)) in
        is? n c.opened
        (λ z. simp some (let y : (n - 1) * s.block ≡ (c.opened - 1) * s.block = ap (λ (m : ℕ). (m - 1) * s.block) z in omega (arith, e, p.last z)))
        (λ z.
        let above : n - 1 + 1 ≤ c.opened - 1 = omega (arith, p.low, p.high) in
        simp some (omega (arith, e, p.slot, mul-le-mul_right s.block above, add-mul (n - 1) 1 s.block)))

    pub place_sound : bad_place (head_with s c) g tag ≡ false
    unfolding bad_place
    place_sound =
        let w = at_place in
        let nn = place_numbered in
        let tagged : eqb (g (Slot n k tag_word)) tag ≡ true =
        eq-eqb (g (Slot n k tag_word)) tag (same.at (Slot n k tag_word) (nn, w.placed.slot, omega arith) ∙ w.tagged) in
        let marked = stands_bit (marks_of f n) k (omega (arith, w.placed.slot, i.full.within.most)) ∙ eq-eqb _ _ (i.full.state.marked.marks n k w.unended) in
        let bit : stands (block_bits g n) k ≡ true = rw (same_bits n 0 nn (omega arith), same_bits n 1 nn (omega arith)) marked in
        rw same_place (or_no (or_no (le-ltb (placed (head_with s c)) (f (Dir tag)) place_low) (rw tagged)) (rw bit))

    pub clear_sound : (more : ℕ) → unsound_clear (head_with s c) g more tag ≡ false
    unfolding unsound_clear
    clear_sound m =
        let x = tag_block (head_with s c) g tag in
        let p = at_place.placed in
        let open-one : bad_block (head_with s c) g n ≡ false = block_sound n p.low p.high (open_block n k i.full.state at_place.unended) in
        or_no (or_no place_sound (and_no (closes (head_with s c) g x) (rw same_place open-one)))
        (acceptor_sound (after_clear (head_with s c) g tag) (copies (head_with s c) g x + m))

    -- the copies, counted on the words
    pub same_copies : copies_of s c g tag ≡ copies_of s c f tag
    same_copies = rw (same_place, same_bits n 0 place_numbered (omega arith), same_bits n 1 place_numbered (omega arith))
