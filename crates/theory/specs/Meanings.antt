-- WHAT THE WORDS MEAN: of any block's words (any_block), and after a history (means): a standing bit is 1 while its slot is unended, and the directory has
-- the place of each tag's standing record, or 0.
use Rattle.std.specs.Prelude.{◌≡◌, refl, ◌≢◌, ◌↔◌, true, ◌&&◌, List, [], ℕ, ◌≤◌, ◌<◌, ltb, leb}
use Rattle.std.proofs.Common.{sym, ap, ◌∙◌, arith, eqb-true, eq-eqb, ltb-true, leb-true}
use Rattle.base.specs.Branch.{cond_all, and-true}
use Rattle.base.specs.Slots.{slots_count}
use Rattle.layout.specs.declared.head.Head.{Head}
use Rattle.layout.specs.declared.standing.Standing.{Standing}
use Rattle.layout.specs.declared.address.Address.TheVariants.{Dir, Bits, Slot}
use Rattle.layout.specs.Sizes.{OPEN, record_len}
use Rattle.layout.specs.Fields.{tag_word, from_word, to_word}
use Rattle.layout.specs.Head.{head_of}
use Rattle.layout.specs.Standing.{stands, block_bits}
use Rattle.layout.specs.Parts.{slot_word}
use Rattle.calls.specs.Calls.{Row}
use Rattle.calls.specs.Placing.{place_of}
use Rattle.calls.specs.Walk.{row_of}
use Rattle.calls.specs.Step.{words_read}
use Rattle.calls.specs.History.{Account}
use Rattle.calls.specs.Claims.{AnyBlock, StandsAt, Means}
use Rattle.theory.specs.Effects.{marks_of}
use Rattle.theory.specs.Sound.{stands_bit}
use Rattle.theory.specs.Honest.{Honest, head_is, word_is, block_numbered}
use Rattle.theory.specs.ByAccount.{free_among, among_free}

-- ---- any block's words
brief : (t k : ℕ) (block : List ℕ) → slot_word block k from_word ≡ slot_word block k to_word → row_of t block k ≡ []
unfolding row_of
brief t k block e =
    let from = slot_word block k from_word in
    let to = slot_word block k to_word in
    cond_all (λ (l : List Row). l ≡ []) (leb from t && ltb t to)
    (λ b. let z = and-true (leb from t) (ltb t to) b in absurd (omega (arith, leb-true from t z.0, ltb-true t to z.1, e)))
    (λ b. refl)

pub any_block : AnyBlock
any_block = record { brief = brief; number_of_ones = λ b l h. slots_count b.low b.high l h }

-- ---- after a history
module _ {ws : List ℕ} {a : Account} (i : Honest ws a) where
  bits_are : (n : ℕ) → 1 ≤ n → n ≤ i.cursor.opened → block_bits (words_read ws) n ≡ record { low = i.memory (Bits n 0); high = i.memory (Bits n 1) }
  bits_are n l h = λ j. record {
    low = word_is i (Bits n 0) (block_numbered i n l h, omega arith) j;
    high = word_is i (Bits n 1) (block_numbered i n l h, omega arith) j;
  }

  opened_is : (head_of ws).cursor.opened ≡ i.cursor.opened
  opened_is = ap (λ (h : Head). h.cursor.opened) (head_is i)

  block_is : (head_of ws).settings.block ≡ a.settings.block
  block_is = ap (λ (h : Head). h.settings.block) (head_is i)

  -- the word of a slot
  slot_is : (n k j : ℕ) → 1 ≤ n → n ≤ i.cursor.opened → k < a.settings.block → j < record_len → words_read ws (Slot n k j) ≡ i.memory (Slot n k j)
  slot_is n k j l h q w = word_is i (Slot n k j) (block_numbered i n l h, q, w)

  bit_iff : (n k : ℕ) → 1 ≤ n → n ≤ i.cursor.opened → k < a.settings.block → (stands (block_bits (words_read ws) n) k ≡ true) ↔ (words_read ws (Slot n k to_word) ≡ OPEN)
  bit_iff n k l h q =
      let m = i.rest.full.state.marked in
      let low : k < 64 = omega (arith, i.rest.full.within.most) in
      let to = slot_is n k to_word l h q (omega arith) in
      let e = ap (λ (b : Standing). stands b k) (bits_are n l h) ∙ stands_bit (marks_of i.memory n) k low in
      (λ t. to ∙ m.unended n k (eqb-true _ _ (sym e ∙ t)), λ o. e ∙ eq-eqb _ _ (m.marks n k (sym to ∙ o)))

  place : (tag : ℕ) → tag < a.settings.tags → words_read ws (Dir tag) ≢ 0 → (n : ℕ) × (k : ℕ) × StandsAt ws tag n k × (words_read ws (Dir tag) ≡ place_of a.settings n k)
  place tag known d =
      let st = i.rest.full.state in
      let w = word_is i (Dir tag) known in
      let z = st.found.found tag (λ e. d (w ∙ e)) in
      let n = z.0 in
      let k = z.1 in
      let p = st.kept.used n k (omega (arith, z.2)) in
      let e : i.memory (Dir tag) ≡ place_of a.settings n k = ap (λ (y : ℕ). i.memory (Dir y)) (sym z.3) ∙ st.found.finds n k z.2 in (
        n,
        k,
        record {
          block = (p.low, omega (arith, p.high, opened_is));
          slot = omega (arith, p.slot, block_is);
          tagged = slot_is n k tag_word p.low p.high p.slot (omega arith) ∙ z.3;
          unended = slot_is n k to_word p.low p.high p.slot (omega arith) ∙ z.2;
        },
        w ∙ e,
      )

  pub means : Means ws a
  means = record {
    bits = λ n k l h q. bit_iff n k l (omega (arith, opened_is)) (omega (arith, block_is));
    directory_none = λ tag known. (λ e. free_among i tag (sym (word_is i (Dir tag) known) ∙ e), λ e. word_is i (Dir tag) known ∙ among_free i tag e);
    directory_place = place;
  }
