-- A program does the same on the words and on the memory that the words are, if each address that it meets may be touched (Safe): `refine`.
use Rattle.std.specs.Prelude.{◌≡◌, refl, true, false, cond, List, ℕ, length}
use Rattle.std.proofs.Common.{ap, ◌∙◌}
use Rattle.std.proofs.Math.Path.{subst⁻¹}
use Rattle.layout.specs.declared.address.Address.{Address}
use Rattle.layout.specs.Address.{eq_a, of_block}
use Rattle.layout.specs.Memory.{Memory, put, wiped}
use Rattle.layout.specs.Interp.{Interp, Same}
use Rattle.layout.specs.Program.{Prog, ret, get, set, wipe, bind, when, run, run_on}

-- every address met may be read, or be written with that value
abbrev pub Safe : {A : Type 0} → Interp → Prog A → Memory → Type 0
Safe i (ret x) f = Unit {0}
Safe i (get a k) f = i.May a × Safe i (k (f a)) f
Safe i (set a v p) f = i.Ok f a v × Safe i p (put f a v)
Safe i (wipe n p) f = i.Opens f n × Safe i p (wiped f n)
Safe i (bind p k) f = Safe i p f × Safe i (k (run_on p f).0) (run_on p f).1
Safe i (when b p q) f = cond b (Safe i p f) (Safe i q f)

-- the words are a store, and hold the memory
pub record Agree (i : Interp) (ws : List ℕ) (f : Memory) : Type 0 where
  pub good : i.Good ws
  pub same : Same (i.read ws) i.May f

module _ (i : Interp) where
  agree_write : (ws : List ℕ) (f : Memory) (a : Address) (v : ℕ) → i.Ok f a v → Agree i ws f → Agree i (i.write ws a v) (put f a v)
  agree_write ws f a v h g = record {
    good = i.good_write ws f a v g.good g.same h;
    same = record { at = λ x m. i.read_write ws f a x v g.good g.same h m ∙ ap (λ (y : ℕ). cond (eq_a a x) v y) (g.same.at x m) };
  }

  agree_wipe : (ws : List ℕ) (f : Memory) (n : ℕ) → i.Opens f n → Agree i ws f → Agree i (i.wipe ws n) (wiped f n)
  agree_wipe ws f n h g = record {
    good = i.good_wipe ws f n g.good g.same h;
    same = record { at = λ x m. i.read_wipe ws f n x g.good g.same h m ∙ ap (λ (y : ℕ). cond (of_block n x) 0 y) (g.same.at x m) };
  }

  -- the same answer, and words that hold the memory left
  pub refine : {A : Type 0} (p : Prog A) (ws : List ℕ) (f : Memory) → Safe i p f → Agree i ws f
      → ((run i p ws).0 ≡ (run_on p f).0) × Agree i (run i p ws).1 (run_on p f).1
  refine (ret x) ws f h g = (refl, g)
  refine (get a k) ws f h g =
      subst⁻¹ (λ (v : ℕ). ((run i (k v) ws).0 ≡ (run_on (k (f a)) f).0) × Agree i (run i (k v) ws).1 (run_on (k (f a)) f).1)
      (g.same.at a h.0) (refine (k (f a)) ws f h.1 g)
  refine (set a v p) ws f h g = refine p (i.write ws a v) (put f a v) h.1 (agree_write ws f a v h.0 g)
  refine (wipe n p) ws f h g = refine p (i.wipe ws n) (wiped f n) h.1 (agree_wipe ws f n h.0 g)
  refine (bind {B = B} p k) ws f h g =
      let r = refine p ws f h.0 g in
      let w₁ = (run i p ws).1 in
      let x = (run_on p f).0 in
      let f₁ = (run_on p f).1 in
      subst⁻¹ (λ (v : B). ((run i (k v) w₁).0 ≡ (run_on (k x) f₁).0) × Agree i (run i (k v) w₁).1 (run_on (k x) f₁).1)
      r.0 (refine (k x) w₁ f₁ h.1 r.1)
  refine (when true p q) ws f h g = refine p ws f h g
  refine (when false p q) ws f h g = refine q ws f h g

  -- a run keeps the length
  pub run_length : {A : Type 0} (p : Prog A) (ws : List ℕ) → length (run i p ws).1 ≡ length ws
  run_length (ret x) ws = refl
  run_length (get a k) ws = run_length (k (i.read ws a)) ws
  run_length (set a v p) ws = run_length p (i.write ws a v) ∙ i.length_write ws a v
  run_length (wipe n p) ws = run_length p (i.wipe ws n) ∙ i.length_wipe ws n
  run_length (bind p k) ws = run_length (k (run i p ws).0) (run i p ws).1 ∙ run_length p ws
  run_length (when true p q) ws = run_length p ws
  run_length (when false p q) ws = run_length q ws
