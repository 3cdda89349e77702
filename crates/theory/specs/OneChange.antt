-- ONE CHANGE opens at most one block and closes at most two, on any words: from what its tests foretell (Foretold), by the words that its run leaves.
use Rattle.std.specs.Prelude.{◌≡◌, refl, ◌≢◌, Bool, true, false, not, ◌&&◌, ◌||◌, List, eqb, ltb}
use Rattle.std.proofs.Common.{sym, ap, ◌∙◌, eq-eqb, le-ltb}
use Rattle.std.proofs.Math.Bool.{and-false}
use Prim.Native.Nat.{ℕ, zero, suc, ◌+◌, ◌≤◌, ◌<◌}
use native.Mathlib.Omega.{arith}
use Rattle.base.specs.Branch.{is?, by_test}
use Rattle.base.specs.Sums.{is, is_small, sum_to, sum_to_none}
use Rattle.layout.specs.declared.head.Cursor.{Cursor}
use Rattle.layout.specs.declared.head.Head.{Head}
use Rattle.layout.specs.declared.address.Address.TheVariants.{Field}
use Rattle.layout.specs.Sizes.{OPEN}
use Rattle.layout.specs.Fields.{closed_word}
use Rattle.layout.specs.Head.{head_of}
use Rattle.layout.specs.Program.{Prog, run, run_on}
use Rattle.layout.specs.OnWords.{over}
use Rattle.calls.specs.Refusals.{opens}
use Rattle.calls.specs.Step.{words_read}
use Rattle.calls.specs.Claims.{Small, closing, Foretold}
use Rattle.theory.specs.Stored.{Left, stored_at}

-- ---- sums of a weight that is 0 or 1
module _ (w : ℕ → ℕ) (x : ℕ) (small : (n : ℕ) → w n ≤ 1) where
  -- 0 but at x
  sum_to_one : (n : ℕ) → ((m : ℕ) → 1 ≤ m → m ≤ n → m ≢ x → w m ≡ 0) → sum_to n w ≤ 1
  unfolding sum_to
  sum_to_one zero h = omega arith
  sum_to_one (suc n) h = is? (suc n) x
      (λ e.
      let none = sum_to_none w 0 n (omega arith) (λ m a b. h m a (omega arith) (omega arith)) in
      omega (arith, small (suc n)))
      (λ d. omega (arith, h (suc n) (omega arith) (omega arith) d, sum_to_one n (λ m a b. h m a (omega arith))))

  -- 0 but at x and at the last
  sum_to_two : (n : ℕ) → ((m : ℕ) → 1 ≤ m → m < n → m ≢ x → w m ≡ 0) → sum_to n w ≤ 2
  unfolding sum_to
  sum_to_two zero h = omega arith
  sum_to_two (suc n) h = omega (arith, small (suc n), sum_to_one n (λ m a b. h m a (omega arith)))

-- a word that stays is not closed
not_closed : (b : Bool) → is (b && not b) ≡ 0
not_closed true = refl
not_closed false = refl

closing_small : (ws us : List ℕ) (n : ℕ) → closing ws us n ≤ 1
closing_small ws us n =
    is_small ((ltb (head_of ws).cursor.opened n || eqb (words_read ws (Field n closed_word)) OPEN) && not (eqb (words_read us (Field n closed_word)) OPEN))

-- ---- a store to itself
pub small_same : (ws : List ℕ) → Small ws ws
unfolding sum_to
small_same ws = record {
  opens = omega arith;
  keeps = omega arith;
  closes =
      let N = (head_of ws).cursor.opened in
      let none : sum_to N (closing ws ws) ≡ 0 =
      sym (sum_to_none (closing ws ws) 0 N (omega arith)
      (λ m a b. rw (le-ltb N m b) (not_closed (eqb (words_read ws (Field m closed_word)) OPEN)))) in
      omega arith;
}

-- ---- the words that a program's run leaves, where it closes block x and the acceptor at most
module _ {ws : List ℕ} {p : Prog Cursor} {now incoming x : ℕ} {W : ℕ → Bool} (left : Left (head_of ws).settings p ws (words_read ws))
    (i : Foretold (head_of ws) (words_read ws) now incoming W (run_on p (words_read ws)))
    (others : (n : ℕ) → n ≢ x → n ≢ (head_of ws).cursor.opened → W n ≡ false) where
  abbrev N : ℕ
  N = (head_of ws).cursor.opened

  abbrev us : List ℕ
  us = (run (over (head_of ws).settings) p ws).1

  abbrev d : Cursor
  d = (run_on p (words_read ws)).0

  opened_is : (head_of us).cursor.opened ≡ d.opened
  opened_is = ap (λ (h : Head). h.cursor.opened) (sym left.store.read.is)

  -- a closed word of the words left
  closed_is : (n : ℕ) → 1 ≤ n → n ≤ d.opened → words_read us (Field n closed_word) ≡ (run_on p (words_read ws)).1 (Field n closed_word)
  closed_is n low high =
      ap (λ (h : Head). (over h.settings).read us (Field n closed_word)) (sym left.store.read.is)
      ∙ stored_at left.store (Field n closed_word) (record { low = low; high = omega (arith, left.store.read.sound.opened) }, omega arith)

  stays : (n : ℕ) → 1 ≤ n → n < N → n ≤ d.opened → n ≢ x → closing ws us n ≡ 0
  stays n low inner high other =
      let e : words_read us (Field n closed_word) ≡ words_read ws (Field n closed_word) =
      closed_is n low high ∙ i.closed n low (omega arith) ∙ rw (others n other (omega arith)) in
      rw (le-ltb N n (omega arith), e) (not_closed (eqb (words_read ws (Field n closed_word)) OPEN))

  -- one block more, which is open
  grown : opens (head_of ws) incoming ≡ true → sum_to (N + 1) (closing ws us) ≤ 2
  grown o =
      let more : d.opened ≡ N + 1 = i.blocks ∙ rw o in
      let new : words_read us (Field (N + 1) closed_word) ≡ OPEN = closed_is (N + 1) (omega arith) (omega arith) ∙ i.new o in
      let none : closing ws us (N + 1) ≡ 0 = simp (eq-eqb (words_read us (Field (N + 1) closed_word)) OPEN new, and-false) in
      let same = sum_to_none (closing ws us) N (N + 1) (omega arith) (λ m a b. let z : m ≡ N + 1 = omega arith in rw z none) in
      omega (arith, sum_to_two (closing ws us) x (closing_small ws us) N (λ m a b c. stays m a b (omega arith) c))

  even : opens (head_of ws) incoming ≡ false → sum_to N (closing ws us) ≤ 2
  even o =
      let same : d.opened ≡ N = i.blocks ∙ rw o in
      sum_to_two (closing ws us) x (closing_small ws us) N (λ m a b c. stays m a b (omega arith) c)

  pub small_left : Small ws us
  small_left = by_test (opens (head_of ws) incoming) (λ b. opens (head_of ws) incoming ≡ b → Small ws us)
      (λ t o.
      let more : (head_of us).cursor.opened ≡ N + 1 = opened_is ∙ i.blocks ∙ rw o in
      record { opens = omega arith; keeps = omega arith; closes = rw more (grown o) })
      (λ t o.
      let same : (head_of us).cursor.opened ≡ N = opened_is ∙ i.blocks ∙ rw o in
      record { opens = omega arith; keeps = omega arith; closes = rw same (even o) })
      refl
