-- Runs of a program on a memory: what every turn of a loop keeps, and the words that a program leaves alone.
use Rattle.std.specs.Prelude.{◌≡◌, refl, Bool, true, false, List, [], ◌∷◌, ℕ}
use Rattle.std.proofs.Common.{◌∙◌}
use Rattle.base.specs.Branch.{by_test}
use Rattle.layout.specs.declared.address.Address.{Address}
use Rattle.layout.specs.Address.{eq_a, of_block}
use Rattle.layout.specs.AddressLaws.{eq_a_eq}
use Rattle.layout.specs.Memory.{Memory, put, wiped}
use Rattle.layout.specs.Program.{Prog, ret, get, set, wipe, bind, when, each, run_on}

-- What a read or write needs, and what the first part of a program needs with what its rest does: a proof about a chain of steps reads
-- like the chain.
abbrev pub met : {A : Type 0} → A → A × Unit {0}
met a = (a, tt)

infixr 5 ◌then◌
abbrev pub ◌then◌ : {A B : Type 0} → A → B → A × B
a then b = (a, b)

-- A walk over a list: where a turn takes what holds with its number to do still to what holds without it, the walk ends with nothing to do.
pub each_walk : {A : Type 0} (P : List ℕ → A → Memory → Type 0) (body : ℕ → A → Prog A)
    → ((k : ℕ) (l : List ℕ) (x : A) (f : Memory) → P (k ∷ l) x f → P l (run_on (body k x) f).0 (run_on (body k x) f).1)
    → (l : List ℕ) (x : A) (f : Memory) → P l x f → P [] (run_on (each body l x) f).0 (run_on (each body l x) f).1
unfolding each
each_walk P body h [] x f p = p
each_walk P body h (k ∷ l) x f p = each_walk P body h l _ _ (h k l x f p)

-- ---- what is written lies within W
abbrev pub Only : {A : Type 0} → (Address → Bool) → Prog A → Type 0
Only W (ret x) = Unit {0}
Only W (get a k) = (v : ℕ) → Only W (k v)
Only W (set a v p) = (W a ≡ true) × Only W p
Only W (wipe n p) = ((a : Address) → W a ≡ false → of_block n a ≡ false) × Only W p
Only W (bind {B = B} p k) = Only W p × ((x : B) → Only W (k x))
Only W (when b p q) = Only W p × Only W q

-- a word outside of W is none of W's
apart : (W : Address → Bool) (a x : Address) → W a ≡ true → W x ≡ false → eq_a a x ≡ false
apart W a x t f = by_test (eq_a a x) (λ b. b ≡ false) (λ e. let z = eq_a_eq a x e in cc) (λ e. refl)

-- Words outside of W stay.
pub framed : {A : Type 0} (W : Address → Bool) (p : Prog A) (f : Memory) → Only W p → (x : Address) → W x ≡ false → (run_on p f).1 x ≡ f x
framed W (ret y) f o x e = refl
framed W (get a k) f o x e = framed W (k (f a)) f (o (f a)) x e
framed W (set a v p) f o x e = framed W p (put f a v) o.1 x e ∙ rw (apart W a x o.0 e)
framed W (wipe n p) f o x e = framed W p (wiped f n) o.1 x e ∙ rw (o.0 x e)
framed W (bind p k) f o x e = framed W (k (run_on p f).0) (run_on p f).1 (o.1 (run_on p f).0) x e ∙ framed W p f o.0 x e
framed W (when true p q) f o x e = framed W p f o.0 x e
framed W (when false p q) f o x e = framed W q f o.1 x e
