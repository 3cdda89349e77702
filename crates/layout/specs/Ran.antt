-- The form of a contract, and the rules by which a function's proof follows its code: a call, then the rest; a branch; a loop.
use Rattle.std.specs.Prelude.{◌≡◌, refl, Bool, true, false, List, [], ◌∷◌, ℕ, length}
use Rattle.std.proofs.Common.{sym, ap, ap₂, ◌∙◌}
use Rattle.layout.specs.Interp.{Interp}
use Rattle.layout.specs.Program.{Prog, ret, bind, when, each, run}
use Rattle.layout.specs.ProgramLaws.{run_length}

-- the program p on the words w gave the value x and the words w', which are a store
pub record Ran {A : Type 0} (i : Interp) (p : Prog A) (w : List ℕ) (x : A) (w' : List ℕ) : Type 0 where
  pub value : (run i p w).0 ≡ x
  pub words : (run i p w).1 ≡ w'
  pub good : i.Good w'

-- ---- straight on
pub done : {A : Type 0} {i : Interp} {x : A} {w : List ℕ} → i.Good w → Ran i (ret x) w x w
done h = record { value = refl; words = refl; good = h }

pub then : {A B : Type 0} {i : Interp} {p : Prog A} {k : A → Prog B} {w w₁ w₂ : List ℕ} {x : A} {y : B}
    → Ran i p w x w₁ → Ran i (k x) w₁ y w₂ → Ran i (bind p k) w y w₂
then {A} {B} {i} {p} {k} e f = record {
  value = ap₂ (λ (v : A) (u : List ℕ). (run i (k v) u).0) e.value e.words ∙ f.value;
  words = ap₂ (λ (v : A) (u : List ℕ). (run i (k v) u).1) e.value e.words ∙ f.words;
  good = f.good;
}

-- ---- a branch
pub taken : {A : Type 0} {i : Interp} {b : Bool} {p q : Prog A} {w w' : List ℕ} {x : A}
    → b ≡ true → Ran i p w x w' → Ran i (when b p q) w x w'
taken e r = rw e (record { value = r.value; words = r.words; good = r.good })

pub passed : {A : Type 0} {i : Interp} {b : Bool} {p q : Prog A} {w w' : List ℕ} {x : A}
    → b ≡ false → Ran i q w x w' → Ran i (when b p q) w x w'
passed e r = rw e (record { value = r.value; words = r.words; good = r.good })

pub ran_length : {A : Type 0} {i : Interp} {p : Prog A} {w w' : List ℕ} {x : A} → Ran i p w x w' → length w' ≡ length w
ran_length {A} {i} {p} {w} r = ap length (sym r.words) ∙ run_length i p w

-- ---- a loop: what is left to run from here gives what the whole gives from the start
pub record Left {A : Type 0} (i : Interp) (whole : Prog A) (w₀ : List ℕ) (rest : Prog A) (w : List ℕ) : Type 0 where
  pub same : run i rest w ≡ run i whole w₀

pub begin : {A : Type 0} {i : Interp} {p : Prog A} {w : List ℕ} → Left i p w p w
begin = record { same = refl }

-- the first call of what is left has run
pub turn : {A B : Type 0} {i : Interp} {whole : Prog A} {w₀ w w₁ : List ℕ} {p : Prog B} {k : B → Prog A} {x : B}
    → Left i whole w₀ (bind p k) w → Ran i p w x w₁ → Left i whole w₀ (k x) w₁
turn {A} {B} {i} {k = k} l e = record {
  same = sym (ap₂ (λ (v : B) (u : List ℕ). run i (k v) u) e.value e.words) ∙ l.same;
}

pub end : {A : Type 0} {i : Interp} {whole : Prog A} {w₀ w : List ℕ} {x : A} → Left i whole w₀ (ret x) w → i.Good w → Ran i whole w₀ x w
end {A} l h = record {
  value = ap (λ (z : A × List ℕ). z.0) (sym l.same);
  words = ap (λ (z : A × List ℕ). z.1) (sym l.same);
  good = h;
}

-- what is left may be written in another way
pub likewise : {A : Type 0} {i : Interp} {whole : Prog A} {w₀ w : List ℕ} {p q : Prog A} → p ≡ q → Left i whole w₀ p w → Left i whole w₀ q w
likewise e l = rw (← e) l

-- ---- a turn for each number of a list
pub each_more : {A : Type 0} (body : ℕ → A → Prog A) (l : List ℕ) (k : ℕ) (l' : List ℕ) (x : A) → l ≡ k ∷ l'
    → each body l x ≡ bind (body k x) (λ y. each body l' y)
unfolding each
each_more body l k l' x e = rw e

pub each_end : {A : Type 0} (body : ℕ → A → Prog A) (l : List ℕ) (x : A) → l ≡ [] → each body l x ≡ ret x
unfolding each
each_end body l x e = rw e
