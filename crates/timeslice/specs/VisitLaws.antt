-- A visit lists fewer blocks than the gap of its two numbers, each strictly between them, and its rows are those that follow from its list.
use Rattle.std.specs.Prelude.{◌≡◌, false, eqb, leb, length}
use Rattle.std.proofs.Math.Path.{refl}
use Rattle.std.proofs.Common.{sym, arith, length-append}
use mathlib.Core.List.{List, [], ◌∷◌, ◌++◌, append_assoc}
use Prim.Native.Nat.{ℕ, zero, suc, ◌+◌, ◌≤◌, ◌<◌}
use borrow.Author.Tests.{leb-false}
use Rattle.base.specs.Branch.{cond_all}
use Rattle.base.specs.Sums.{All, nil, cons, all_append, all_map}
use Rattle.layout.specs.Fields.{closed_word, left_word, child_word}
use Rattle.layout.specs.Parts.{block_word}
use Rattle.calls.specs.Calls.{Row}
use Rattle.calls.specs.Walk.{Reader, Walk, unsound, found, listed, rows_of, visit}
use Rattle.timeslice.specs.Listed.{rows_at, rows_in}

-- enough fuel is more than none
pub with_fuel : (P : ℕ → Type 0) (k : ℕ) → ((f : ℕ) → k ≤ f → P (suc f)) → (f : ℕ) → k < f → P f
with_fuel P k g zero q = absurd (omega arith)
with_fuel P k g (suc f) q = g f (omega arith)

-- ---- a visit lists fewer blocks than its gap
pub data Short (lower upper : ℕ) : Walk → Type 0 where
  none : Short lower upper unsound
  few : {r : List Row} {l : List ℕ} → length l + lower < upper → Short lower upper (found r l)

-- a block listed, with two walks behind it
pub listed_short : {a b lower c upper : ℕ} (n : ℕ) (r : List Row) {v w : Walk} → Short a b v → Short lower c w → b + c ≤ upper + a
    → Short lower upper (listed n r v w)
listed_short n r none none e = none
listed_short n r none (few h) e = none
listed_short n r (few h) none e = none
listed_short n r (few {l = l} g) (few {l = l'} h) e = few {l = n ∷ (l ++ l')} (simp length-append (omega arith))

pub visit_short : (b t : ℕ) (R : Reader) (fuel lower upper n : ℕ) → lower < upper → Short lower upper (visit b t R fuel lower upper n)
unfolding visit
visit_short b t R zero lower upper n h = none
visit_short b t R (suc fuel) lower upper n h =
    let P = Short lower upper in
    let v = visit_short b t R fuel n upper (block_word (R.block n) child_word) in
    let w = visit_short b t R fuel lower n (block_word (R.block n) left_word) in
    cond_all P (eqb n 0) (λ e. few {l = []} (omega arith))
    (λ e. cond_all P (leb n lower) (λ i. none)
    (λ i. let p = leb-false n lower i in cond_all P (leb upper n) (λ j. none)
    (λ j. let q = leb-false upper n j in cond_all P (leb (block_word (R.block n) closed_word) t) (λ k. few {l = n ∷ []} (omega arith))
    (λ k. listed_short n (rows_of b t (R.block n)) (v q) (w p) (omega arith)))))

pub short_found : {lower upper : ℕ} {w : Walk} {r : List Row} {l : List ℕ} → Short lower upper w → w ≡ found r l → length l + lower < upper
short_found none e = absurd (let z : ◌≡◌ {A = ℕ} 0 1 = cc in omega arith)
short_found {l = l} (few {l = k} h) e = let i : k ≡ l = cc in rw (← i) h

-- ---- its blocks and its rows
pub record Between (lower upper n : ℕ) : Type 0 where
  pub low : lower < n
  pub high : n < upper

module _ (b t : ℕ) (R : Reader) where
  pub rows_append : (l m : List ℕ) → rows_in b t R (l ++ m) ≡ rows_in b t R l ++ rows_in b t R m
  unfolding rows_in
  rows_append [] m = refl
  rows_append (n ∷ l) m = rw (rows_append l m) (sym (append_assoc (rows_at b t R n) (rows_in b t R l) (rows_in b t R m)))

  -- a walk whose rows follow from its list, which has numbers between the two only
  pub data Follows (lower upper : ℕ) : Walk → Type 0 where
    nowhere : Follows lower upper unsound
    so : {r : List Row} {l : List ℕ} → r ≡ rows_in b t R l → All (Between lower upper) l → Follows lower upper (found r l)

  listed_follows : {lower upper n : ℕ} {v w : Walk} → lower < n → n < upper → leb (block_word (R.block n) closed_word) t ≡ false
      → Follows n upper v → Follows lower n w → Follows lower upper (listed n (rows_of b t (R.block n)) v w)
  unfolding rows_at rows_in
  listed_follows p q c nowhere nowhere = nowhere
  listed_follows p q c nowhere (so e a) = nowhere
  listed_follows p q c (so e a) nowhere = nowhere
  listed_follows {n = n} p q c (so {r = r} {l = l} e a) (so {r = r'} {l = l'} e' a') =
      so {r = rows_of b t (R.block n) ++ (r ++ r')} {l = n ∷ (l ++ l')} (rw (c, e, e', rows_append l l'))
      (cons (record { low = p; high = q }) (all_append (all_map (λ i h. record { low = omega (arith, h.low); high = h.high }) a)
      (all_map (λ i h. record { low = h.low; high = omega (arith, h.high) }) a')))

  pub visit_follows : (fuel lower upper n : ℕ) → Follows lower upper (visit b t R fuel lower upper n)
  unfolding visit rows_in rows_at
  visit_follows zero lower upper n = nowhere
  visit_follows (suc fuel) lower upper n =
      let P = Follows lower upper in
      let v = visit_follows fuel n upper (block_word (R.block n) child_word) in
      let w = visit_follows fuel lower n (block_word (R.block n) left_word) in
      cond_all P (eqb n 0) (λ e. so {l = []} refl nil)
      (λ e. cond_all P (leb n lower) (λ i. nowhere)
      (λ i. let p = leb-false n lower i in cond_all P (leb upper n) (λ j. nowhere)
      (λ j. let q = leb-false upper n j in cond_all P (leb (block_word (R.block n) closed_word) t)
      (λ k. so {l = n ∷ []} (rw k) (cons (record { low = p; high = q }) nil))
      (λ k. listed_follows p q k v w))))

  pub follows_rows : {lower upper : ℕ} {r : List Row} {l : List ℕ} → Follows lower upper (found r l) → r ≡ rows_in b t R l
  follows_rows (so e a) = e

  pub follows_all : {lower upper : ℕ} {r : List Row} {l : List ℕ} → Follows lower upper (found r l) → All (Between lower upper) l
  follows_all (so e a) = a
