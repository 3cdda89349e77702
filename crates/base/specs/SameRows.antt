-- "The same rows, order aside": every weight has the same sum over both lists. The library's permutations say the
-- same, and its lists without a repetition are those in which no number is counted twice.
use Rattle.std.specs.Prelude.{◌≡◌, refl, ℕ, ◌+◌, ◌≤◌, ◌<◌}
use Rattle.std.proofs.Common.{ap, ◌∙◌, arith, eq-eqb}
use Rattle.std.proofs.Math.Logic.{∥∥₁_elim}
use mathlib.Core.HLevel.{Discrete, ⊥_prop}
use mathlib.Core.List.{List, [], ◌∷◌, ◌++◌, Mem, Memᴰ}
use mathlib.Core.List.Perm
use mathlib.Core.List.{Perm, perm_middle, Nodup, Nodup-nil, Nodup-cons}
use mathlib.Core.List.{Permᴰ}
use Rattle.base.specs.Branch.{eqb_same}
use Rattle.base.specs.Sums.{total, totals, occ}

-- ---- what has two parts, each equal or not, is equal or not
pub both_discrete : {A B C : Type 0} (one : C → A) (other : C → B) → ((x y : C) → one x ≡ one y → other x ≡ other y → x ≡ y)
    → Discrete A → Discrete B → Discrete C
both_discrete one other same da db x y = go (da (one x) (one y)) (db (other x) (other y))
  where
    go : Dec (one x ≡ one y) → Dec (other x ≡ other y) → Dec (x ≡ y)
    go (yes p) (yes q) = yes (same x y p q)
    go (yes p) (no d) = no (λ e. d (ap other e))
    go (no d) q = no (λ e. d (ap one e))

pub record Same {A : Type 0} (l m : List A) : Type 0 where
  pub sums : (w : A → ℕ) → total w l ≡ total w m

-- ---- a permutation has the same sums

perm_total : {A : Type 0} (w : A → ℕ) {l m : List A} → Permᴰ l m → total w l ≡ total w m
perm_total w Permᴰ.nil = refl
perm_total w (Permᴰ.cons e p) = simp totals (omega (arith, ap w e, perm_total w p))
perm_total w (Permᴰ.swap e f) = simp totals (omega (arith, ap w e, ap w f))
perm_total w (Permᴰ.trans p q) = perm_total w p ∙ perm_total w q

-- ---- and the same sums make a permutation

-- m has x between the two parts.
record Split {A : Type 0} (x : A) (m : List A) : Type 0 where
  before : List A
  after : List A
  is_split : m ≡ before ++ (x ∷ after)

-- Without x in the one and the other, the rest has the same sums.
same_rest : {A : Type 0} {x : A} {l : List A} (a b : List A) → Same (x ∷ l) (a ++ (x ∷ b)) → Same l (a ++ b)
same_rest {x = x} {l} a b s = record {
  sums = λ w.
      let e : w x + total w l ≡ total w a + (w x + total w b) = simp totals at (s.sums w) in
      simp totals (omega arith);
}

-- A decided statement as a weight: 1 where it holds.
abbrev decided : {P : Type 0} → Dec P → ℕ
decided (yes p) = 1
decided (no n) = 0

module _ {A : Type 0} (d : Discrete A) where
  -- How often x stands in a list.
  abbrev times : A → List A → ℕ
  times x = total (λ y. decided (d x y))

  times_here : (x : A) (l : List A) → 0 < times x (x ∷ l)
  times_here x l = simp totals (go (d x x))
    where
      go : (t : Dec (x ≡ x)) → 0 < decided t + times x l
      go (yes e) = omega arith
      go (no n) = absurd (n refl)

  -- Where x is counted, it stands.
  split_at : (x : A) (m : List A) → 0 < times x m → Split x m
  split_at x [] h = absurd (omega (arith, simp totals at h))
  split_at x (y ∷ m) h = go (d x y) (simp totals at h) (split_at x m)
    where
      go : (t : Dec (x ≡ y)) → 0 < decided t + times x m → (0 < times x m → Split x m) → Split x (y ∷ m)
      go (yes e) p f = record { before = []; after = m; is_split = rw e }
      go (no n) p f =
          let s = f (omega arith) in
          record { before = y ∷ s.before; after = s.after; is_split = ap (λ (l : List A). y ∷ l) s.is_split }

  pub same_perm : {l m : List A} → Same l m → Perm l m
  same_perm {l = []} {m = []} s = Perm.nil
  same_perm {l = []} {m = y ∷ m} s = absurd (omega (arith, simp totals at (s.sums (λ x. 1))))
  same_perm {l = x ∷ l} {m} s =
      let c = split_at x m (rw (← s.sums) (times_here x l)) in
      let r = same_rest c.before c.after (rw c.is_split at s) in
      rw c.is_split (Perm.trans (Perm.cons x (same_perm {l = l} r)) (Perm.symm (perm_middle c.before c.after)))

-- ---- no repetition

mem_occ : {m : ℕ} {l : List ℕ} → Memᴰ m l → 0 < occ m l
mem_occ {m} (Memᴰ.head {x} e) = simp (totals, eq-eqb m x e) (omega arith)
mem_occ (Memᴰ.tail i) = simp totals (omega (arith, mem_occ i))

pub once_nodup : {l : List ℕ} → ((m : ℕ) → occ m l ≤ 1) → Nodup l
once_nodup {l = []} h = Nodup-nil
once_nodup {l = n ∷ l} h = Nodup-cons.1 (absent, once_nodup (λ m. omega (arith, simp totals at (h m))))
  where
    absent : Mem n l → ⊥
    absent i = ∥∥₁_elim i ⊥_prop (λ j. omega (arith, simp (totals, eqb_same) at (h n), mem_occ j))
