-- TABLES OF TESTS: the first refusal that applies, and what it says of the table.
use Rattle.std.specs.Prelude.{◌≡◌, refl, Bool, true, false, cond, not, ◌&&◌, ◌||◌, List, [], ◌∷◌, ℕ, ◌<◌, eqb, ltb}
use Rattle.std.proofs.Common.{sym, ◌∙◌, subst, arith, eq-eqb, ltb-true}
use Rattle.base.specs.Branch.{by_test, and-true}
use Rattle.base.specs.Sums.{All, nil, cons}
use Rattle.calls.specs.Refusals.{Test, refusal}
use Rattle.calls.specs.Claims.{First, here, later}

-- every number is not 0
abbrev pub numbered : List Test → Bool
numbered [] = true
numbered (x ∷ l) = ltb 0 x.number && numbered l

pub refusal_none : {l : List Test} → All (λ x. x.applies ≡ false) l → refusal l ≡ 0
refusal_none nil = refl
refusal_none (cons e a) = rw e (refusal_none a)

-- what the first refusal says of the table
pub data Decided (l : List Test) : ℕ → Type 0 where
  free : All (λ x. x.applies ≡ false) l → Decided l 0
  turned : {n : ℕ} → 0 < n → First l n → Decided l n

pub refused : (l : List Test) → numbered l ≡ true → Decided l (refusal l)
refused [] k = free nil
refused (x ∷ l) k = let a = and-true (ltb 0 x.number) (numbered l) k in more (ltb-true 0 x.number a.0) (refused l a.1)
  where
    more : {n : ℕ} → 0 < x.number → Decided l n → Decided (x ∷ l) (cond x.applies x.number n)
    more {n} h o = by_test x.applies (λ t. x.applies ≡ t → Decided (x ∷ l) (cond t x.number n)) (λ e q. turned h (here e)) (λ e q. on q o) refl
      where
        on : {n : ℕ} → x.applies ≡ false → Decided l n → Decided (x ∷ l) n
        on e (free f) = free (cons e f)
        on e (turned p f) = turned p (later e f)

-- no refusal applies, and one does: not both
pub clash : {l : List Test} {n : ℕ} → All (λ x. x.applies ≡ false) l → First l n → ⊥
clash (cons e a) (here f) = let z : ◌≡◌ {A = ℕ} 0 1 = cc in omega arith
clash (cons e a) (later f r) = clash a r
clash {n = n} nil x = elim x [ ]

-- ---- two tables that decide alike: the second has the tests of the first, but for some that never apply. A later test need only be alike where the ones
-- before it do not apply.
pub data TablesAlike : List Test → List Test → Type 0 where
  same : TablesAlike [] []
  both : {x y : Test} {l m : List Test} → x.number ≡ y.number → x.applies ≡ y.applies → (y.applies ≡ false → TablesAlike l m) → TablesAlike (x ∷ l) (y ∷ m)
  idle : {x : Test} {l m : List Test} → x.applies ≡ false → TablesAlike l m → TablesAlike (x ∷ l) m

pub alike_free : {l m : List Test} → TablesAlike l m → All (λ x. x.applies ≡ false) l → All (λ x. x.applies ≡ false) m
alike_free same nil = nil
alike_free (both n e r) (cons f a) = let g = sym e ∙ f in cons g (alike_free (r g) a)
alike_free (idle e r) (cons f a) = alike_free r a

pub free_alike : {l m : List Test} → TablesAlike l m → All (λ x. x.applies ≡ false) m → All (λ x. x.applies ≡ false) l
free_alike same nil = nil
free_alike (both n e r) (cons f a) = cons (e ∙ f) (free_alike (r f) a)
free_alike (idle e r) a = cons e (free_alike r a)

no : {A : Type 0} {b : Bool} → b ≡ true → b ≡ false → A
no e f = absurd (let z : ◌≡◌ {A = ℕ} 0 1 = cc in omega arith)

pub alike_first : {l m : List Test} {n : ℕ} → TablesAlike l m → First l n → First m n
alike_first (both {x} {y} {l} {m} n e r) (here f) = subst (λ (k : ℕ). First (y ∷ m) k) (sym n) (here (sym e ∙ f))
alike_first (both n e r) (later f q) = let g = sym e ∙ f in later g (alike_first (r g) q)
alike_first (idle e r) (here f) = no f e
alike_first (idle e r) (later f q) = alike_first r q
alike_first {n = n} same q = elim q [ ]

-- a number that no test has that may apply is not the first
abbrev pub lacks : ℕ → List Test → Bool
lacks m [] = true
lacks m (x ∷ l) = (not (eqb x.number m) || not x.applies) && lacks m l

pub never_first : {n : ℕ} {l : List Test} → lacks n l ≡ true → First l n → ⊥
never_first k (here {x} {l} f) =
    let z = and-true (not (eqb x.number x.number) || not x.applies) (lacks x.number l) k in
    no z.0 (rw (eq-eqb x.number x.number refl, f))
never_first {n} k (later {x} {l} f q) = never_first (and-true (not (eqb x.number n) || not x.applies) (lacks n l) k).1 q
