-- Tables of refusals: the first that applies answers; where the answer is 0, none applies.
use Rattle.std.specs.Prelude.{◌≡◌, refl, ◌≢◌, Bool, true, false, cond, ◌&&◌, List, [], ◌∷◌, ◌++◌, ℕ, ◌≤◌, eqb, ltb, leb}
use Rattle.std.proofs.Common.{sym, ◌∙◌, arith, leb-true, eq-eqb, ne_eqb}
use Rattle.base.specs.Branch.{by_test, and-true}
use Rattle.base.specs.Sums.{All, nil, cons}
use Rattle.calls.specs.Refusals.{Test, refusal}

-- r is the refusal of a table: the rules by which a function's proof follows its tests
pub record RefusalOf (l : List Test) (r : ℕ) : Type 0 where
  pub is : refusal l ≡ r

pub hit : {b : Bool} {k : ℕ} {l : List Test} → b ≡ true → RefusalOf (record { number = k; applies = b } ∷ l) k
hit e = record { is = rw e }

pub miss : {b : Bool} {k r : ℕ} {l : List Test} → b ≡ false → RefusalOf l r → RefusalOf (record { number = k; applies = b } ∷ l) r
miss e h = record { is = rw e h.is }

pub none : RefusalOf [] 0
none = record { is = refl }

-- ---- a word read as r is 0, or not
pub zero_is : {x r : ℕ} → x ≡ r → r ≡ 0 → eqb x 0 ≡ true
zero_is {x} e z = eq-eqb x 0 (e ∙ z)

pub zero_not : {x r : ℕ} → x ≡ r → r ≢ 0 → eqb x 0 ≡ false
zero_not {x} e d = ne_eqb x 0 (λ z. d (sym e ∙ z))

-- ---- a store is shorter than r words, or not
pub short_by : (n : ℕ) {r x : ℕ} {b : Bool} → r ≡ x → ltb n r ≡ b → ltb n x ≡ b
short_by n e g = rw (← e) g

-- ---- every test of a table has a number
abbrev pub Numbers : List Test → Type 0
Numbers l = All (λ t. 1 ≤ t.number) l

-- which a table of literal numbers shows by computing
abbrev pub numbered : List Test → Bool
numbered [] = true
numbered (t ∷ l) = leb 1 t.number && numbered l

pub numbers : (l : List Test) → numbered l ≡ true → Numbers l
numbers [] e = nil
numbers (t ∷ l) e = let p = and-true (leb 1 t.number) (numbered l) e in cons (leb-true 1 t.number p.0) (numbers l p.1)

-- no test of a table applies
abbrev pub NoneApplies : List Test → Type 0
NoneApplies l = All (λ t. t.applies ≡ false) l

-- Where the refusal is 0, no test applies.
pub none_applies : {l : List Test} → Numbers l → refusal l ≡ 0 → NoneApplies l
none_applies nil e = nil
none_applies (cons {x} {l} n a) e = by_test x.applies
    (λ t. x.applies ≡ t → cond t x.number (refusal l) ≡ 0 → NoneApplies (x ∷ l))
    (λ z d g. absurd (omega arith))
    (λ z d g. cons d (none_applies a g))
    refl e

-- After tests that do not apply come the others,
pub none_first : {l : List Test} (m : List Test) → NoneApplies l → refusal (l ++ m) ≡ refusal m
none_first m nil = refl
none_first m (cons {x} {l} e a) = rw e (none_first m a)

-- and after one that does they say nothing.
pub first_stays : (l m : List Test) → refusal l ≢ 0 → refusal (l ++ m) ≡ refusal l
first_stays [] m d = absurd (d refl)
first_stays (x ∷ l) m d = by_test x.applies
    (λ t. cond t x.number (refusal l) ≢ 0 → cond t x.number (refusal (l ++ m)) ≡ cond t x.number (refusal l))
    (λ e g. refl)
    (λ e g. first_stays l m g)
    d
