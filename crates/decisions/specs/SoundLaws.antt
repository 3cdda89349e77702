-- The tests of refusal 12 by their parts: where one decides, the rest may stay as they are (`refl`).
use Rattle.std.specs.Prelude.{◌≡◌, refl, ◌≢◌, Bool, true, false, not, ◌&&◌, ◌||◌, List, [], ◌∷◌, ℕ, ◌+◌, ◌≤◌, eqb, ltb, leb}
use Rattle.std.specs.List.{list_any}
use Rattle.std.proofs.Common.{sym, ◌∙◌, subst, arith, ltb-false, lt-ltb, le-ltb, le-leb, eq-eqb, ne_eqb}
use Rattle.std.proofs.Math.Path.{ap, subst⁻¹}
use Rattle.std.proofs.lemmas.Bool.{lt-leb}
use Rattle.base.specs.Branch.{lt?, or-false}
use Rattle.layout.specs.declared.head.Head.{Head}
use Rattle.layout.specs.declared.standing.Standing.{Standing}
use Rattle.layout.specs.declared.address.Address.TheVariants.{Dir, Field, Slot}
use Rattle.layout.specs.Fields.{up_word, right_word, tag_word}
use Rattle.layout.specs.RefusalNumbers.{UNSOUND, OUT_OF_BLOCKS}
use Rattle.layout.specs.Memory.{Memory}
use Rattle.layout.specs.Head.{placed}
use Rattle.layout.specs.HeadLaws.{SoundHead}
use Rattle.layout.specs.Spot.{Lies, place_lies}
use Rattle.layout.specs.Standing.{slots, stands, lowered, block_bits}
use Rattle.calls.specs.Placing.{block_of, slot_of}
use Rattle.calls.specs.Refusals.{Test, any_of, opens, tag_block, closes, copies, acceptor_closes, after_clear, bad_place, bad_block, unsound_set, unsound_clear, blocks_out}
use Rattle.decisions.specs.TestLaws.{RefusalOf, hit, miss, none}
use Rattle.decisions.specs.EffectLaws.{few_when_full}

-- the links of `bad_block`, and one of its slots
unfoldable pub bad_links : Head → Memory → ℕ → Bool
bad_links h f n =
    let right = f (Field n right_word) in
    leb n (f (Field n up_word)) || (not (eqb n h.cursor.opened) && not (ltb n right && leb right h.cursor.opened))

unfoldable pub bad_slot : Head → Memory → ℕ → ℕ → Bool
bad_slot h f n k = leb h.settings.block k || leb h.settings.tags (f (Slot n k tag_word))

-- the acceptor, with standing bits b, is closed by a block that opens, and unsound
unfoldable pub bad_acceptor : Head → Memory → Standing → Bool
bad_acceptor h f b = (not (eqb h.cursor.opened 0) && few_when_full h b) && bad_block h f h.cursor.opened

-- refusal 13 where a block opens, and refusals 12 and 13 of a clear
abbrev pub out_test : Head → List Test
out_test h = record { number = OUT_OF_BLOCKS; applies = eqb h.cursor.opened h.settings.blocks } ∷ []

abbrev pub ending_tests : ℕ → Head → Memory → ℕ → List Test
ending_tests more h f tag =
    record { number = UNSOUND; applies = unsound_clear h f more tag }
    ∷ record { number = OUT_OF_BLOCKS; applies = blocks_out h (copies h f (tag_block h f tag) + more) } ∷ []

-- a clear of the place p of a tag, in block n, that brings i records: its place is sound, and block n if it closes
pub record Ending (more : ℕ) (h : Head) (f : Memory) (tag p n i : ℕ) : Type 0 where
  pub is : p ≡ f (Dir tag)
  pub in-block : n ≡ block_of h.settings p
  pub brings : i ≡ copies h f n + more
  pub place : bad_place h f tag ≡ false
  pub closing : (closes h f n && bad_block h f n) ≡ false

-- not up to it is above it
pub not_leb : (a b : ℕ) → ltb b a ≡ not (leb a b)
not_leb a b = lt? b a (λ l. simp (lt-ltb b a l, lt-leb a b l)) (λ l. simp (le-ltb b a l, le-leb a b l))

-- ---- refusal 13: where a block opens, its own test; else it does not apply
pub out_opens : (h : Head) (i : ℕ) {r : ℕ} → opens h i ≡ true → RefusalOf (out_test h) r → RefusalOf (record { number = OUT_OF_BLOCKS; applies = blocks_out h i } ∷ []) r
unfolding blocks_out
out_opens h i e g = record { is = rw e g.is }

pub out_rests : (h : Head) (i : ℕ) → opens h i ≡ false → blocks_out h i ≡ false
unfolding blocks_out
out_rests h i e = rw e

module _ (h : Head) (f : Memory) where
  -- ---- a block
  pub bad-links : (n : ℕ) {up right : ℕ} → f (Field n up_word) ≡ up → f (Field n right_word) ≡ right → {u a r l : Bool} → leb n up ≡ u
      → eqb n h.cursor.opened ≡ a → ltb n right ≡ r → leb right h.cursor.opened ≡ l → bad_links h f n ≡ (u || (not a && not (r && l)))
  unfolding bad_links
  bad-links n up right u a r l = rw (up, right, u, a, r, l)

  pub bad-block : (n : ℕ) {a b : Bool} → bad_links h f n ≡ a → any_of (bad_slot h f n) (slots (block_bits f n)) ≡ b → bad_block h f n ≡ (a || b)
  unfolding bad_block bad_links bad_slot
  bad-block n a b = rw (a, b)

  -- ---- the place p of a tag, in slot k of block n
  module _ (tag : ℕ) {p n k : ℕ} (is : p ≡ f (Dir tag)) (in-block : n ≡ block_of h.settings p) (in-slot : k ≡ slot_of h.settings p) where
    pub bad-place : {m t : ℕ} {bits : Standing} → m ≡ placed h → f (Slot n k tag_word) ≡ t → bits ≡ block_bits f n → {a b c : Bool} → ltb m p ≡ a
        → eqb t tag ≡ b → stands bits k ≡ c → bad_place h f tag ≡ (a || not b || not c)
    unfolding bad_place
    bad-place m t bits a b c = rw (← is, ← in-block, ← in-slot, ← m, t, ← bits, a, b, c)

    -- the acceptor's standing bits after a clear there
    pub after_here : {b : Standing} → b ≡ block_bits f h.cursor.opened → n ≡ h.cursor.opened → lowered b k ≡ after_clear h f tag
    after_here e g = rw (← is, ← in-block, ← in-slot, ← e, eq-eqb n h.cursor.opened g)

    pub after_there : {b : Standing} → b ≡ block_bits f h.cursor.opened → n ≢ h.cursor.opened → b ≡ after_clear h f tag
    after_there e d = rw (← is, ← in-block, ne_eqb n h.cursor.opened d) e

  -- ---- the acceptor, few standing or not
  pub bad-acceptor : (b : Standing) {few : Bool} → 1 ≤ h.cursor.opened → few_when_full h b ≡ few
      → bad_acceptor h f b ≡ (few && bad_block h f h.cursor.opened)
  unfolding bad_acceptor
  bad-acceptor b a e = rw (ne_eqb h.cursor.opened 0 (λ z. omega arith), e)

  -- ---- a set, where a block opens and where none does
  pub set_opens : {b : Bool} → opens h 1 ≡ true → bad_acceptor h f (block_bits f h.cursor.opened) ≡ b → unsound_set h f ≡ b
  unfolding bad_acceptor unsound_set
  set_opens e g = rw e g

  pub set_rests : opens h 1 ≡ false → unsound_set h f ≡ false
  unfolding unsound_set
  set_rests e = rw e

  -- ---- what a clear of the place p of a tag, in block n, needs
  module _ (more tag : ℕ) {p n : ℕ} (is : p ≡ f (Dir tag)) (in-block : n ≡ block_of h.settings p) where
    unsound-clear : {i : ℕ} → i ≡ copies h f n + more → {a b c : Bool} → bad_place h f tag ≡ a
        → (closes h f n && bad_block h f n) ≡ b → (acceptor_closes h (after_clear h f tag) i && bad_block h f h.cursor.opened) ≡ c
        → unsound_clear h f more tag ≡ (a || b || c)
    unfolding unsound_clear
    unsound-clear {i} g {a} {b} {c} x =
        subst⁻¹ (λ (m : ℕ). i ≡ copies h f m + more → (closes h f m && bad_block h f m) ≡ b
        → (acceptor_closes h (after_clear h f tag) i && bad_block h f h.cursor.opened) ≡ c → unsound_clear h f more tag ≡ (a || b || c))
        (in-block ∙ ap (block_of h.settings) is)
        (λ k y z.
        let w : (acceptor_closes h (after_clear h f tag) (copies h f (tag_block h f tag) + more) && bad_block h f h.cursor.opened) ≡ c =
        ap (λ (v : ℕ). acceptor_closes h (after_clear h f tag) v && bad_block h f h.cursor.opened) (sym k) ∙ z in
        rw (x, y, w))
        g

    -- Its place is unsound, or the block that closes.
    pub end_place : bad_place h f tag ≡ true → RefusalOf (ending_tests more h f tag) UNSOUND
    end_place e = hit (unsound-clear refl e refl refl)

    pub end_closing : bad_place h f tag ≡ false → (closes h f n && bad_block h f n) ≡ true → RefusalOf (ending_tests more h f tag) UNSOUND
    end_closing e g = hit (unsound-clear refl e g refl)

  -- Its place and the block that closes are sound:
  module _ {more tag p n i : ℕ} (x : Ending more h f tag p n i) where
    the_rest : {c : Bool} → (acceptor_closes h (after_clear h f tag) i && bad_block h f h.cursor.opened) ≡ c → unsound_clear h f more tag ≡ c
    the_rest e = unsound-clear more tag x.is x.in-block x.brings x.place x.closing e

    -- the records that it brings, by its tag's block
    brought : {r : ℕ} → RefusalOf (record { number = OUT_OF_BLOCKS; applies = blocks_out h i } ∷ []) r
        → RefusalOf (record { number = OUT_OF_BLOCKS; applies = blocks_out h (copies h f (tag_block h f tag) + more) } ∷ []) r
    brought {r} =
        subst (λ (m : ℕ). RefusalOf (record { number = OUT_OF_BLOCKS; applies = blocks_out h m } ∷ []) r)
        (x.brings ∙ ap (λ (m : ℕ). copies h f m + more) (x.in-block ∙ ap (block_of h.settings) x.is))

    -- they open no block;
    pub end_rests : opens h i ≡ false → RefusalOf (ending_tests more h f tag) 0
    end_rests e = miss (the_rest (rw e)) (brought (miss (out_rests h i e) none))

    -- or they open one, and the acceptor is unsound, or only refusal 13 is left.
    pub end_acceptor : opens h i ≡ true → bad_acceptor h f (after_clear h f tag) ≡ true → RefusalOf (ending_tests more h f tag) UNSOUND
    unfolding bad_acceptor
    end_acceptor e g = hit (the_rest (rw e g))

    pub end_out : {r : ℕ} → opens h i ≡ true → bad_acceptor h f (after_clear h f tag) ≡ false → RefusalOf (out_test h) r
        → RefusalOf (ending_tests more h f tag) r
    unfolding bad_acceptor
    end_out e g o = miss (the_rest (rw e g)) (brought (out_opens h i e o))

  -- ---- a place that is sound is not above the records placed, and so lies in the store
  pub place_in : (tag : ℕ) {p : ℕ} → SoundHead h → p ≡ f (Dir tag) → 1 ≤ p → bad_place h f tag ≡ false → Lies h p
  unfolding bad_place
  place_in tag {p} g e a b =
      place_lies h p g a (rw e (ltb-false (placed h) (f (Dir tag)) (or-false (ltb (placed h) (f (Dir tag))) _ (or-false _ _ b).0).0))

-- one of a list, as the library says it
pub any_listed : {A : Type 0} (p : A → Bool) (l : List A) → list_any p l ≡ any_of p l
any_listed p [] = refl
any_listed p (x ∷ l) = rw (any_listed p l) refl
