-- Words on which a program may run: they hold a memory on which each address that it meets is the layout's. What is asked of a part of a call; the rules
-- follow the code as those of Ran do.
use Rattle.std.specs.Prelude.{◌≡◌, Bool, true, false, cond, List, ℕ}
use Rattle.std.proofs.Common.{sym, ◌∙◌, subst}
use Rattle.layout.specs.declared.settings.Settings.{Settings}
use Rattle.layout.specs.declared.address.Address.{Address}
use Rattle.layout.specs.declared.address.Address.TheVariants.{Slot}
use Rattle.layout.specs.declared.payload.Payload.{Payload}
use Rattle.layout.specs.Fields.{reading_word}
use Rattle.layout.specs.Address.{Valid, Numbered}
use Rattle.layout.specs.Memory.{Memory}
use Rattle.layout.specs.Settings.{Within}
use Rattle.layout.specs.Program.{Prog, get, set, wipe, bind, when, run_on}
use Rattle.layout.specs.ProgramLaws.{Safe, Agree, refine}
use Rattle.layout.specs.Ran.{Ran}
use Rattle.layout.specs.OnWords.{over, Held}
use Rattle.layout.specs.Payload.{get_payload}
use Rattle.layout.specs.Spot.{Spot}

pub record Able {A : Type 0} (s : Settings) (p : Prog A) (ws : List ℕ) : Type 0 where
  pub within : Within s
  pub memory : Memory
  pub agree : Agree (over s) ws memory
  pub safe : Safe (over s) p memory

pub able_held : {A : Type 0} {s : Settings} {p : Prog A} {ws : List ℕ} → Able s p ws → Held s ws
able_held a = record { good = a.agree.good; within = a.within }

-- ---- a call, then the rest
pub able_first : {A B : Type 0} {s : Settings} {p : Prog A} {k : A → Prog B} {ws : List ℕ} → Able s (bind p k) ws → Able s p ws
able_first a = record { within = a.within; memory = a.memory; agree = a.agree; safe = a.safe.0 }

pub able_next : {A B : Type 0} {s : Settings} {p : Prog A} {k : A → Prog B} {ws us : List ℕ} {x : A}
    → Able s (bind p k) ws → Ran (over s) p ws x us → Able s (k x) us
able_next {A} {B} {s} {p} {k} {ws} {us} {x} a r =
    let q = refine (over s) p ws a.memory a.safe.0 a.agree in
    let e : (run_on p a.memory).0 ≡ x = sym q.0 ∙ r.value in
    record {
      within = a.within;
      memory = (run_on p a.memory).1;
      agree = subst (λ (w : List ℕ). Agree (over s) w (run_on p a.memory).1) r.words q.1;
      safe = subst (λ (y : A). Safe (over s) (k y) (run_on p a.memory).1) e a.safe.1;
    }

-- ---- a branch
pub able_taken : {A : Type 0} {s : Settings} {b : Bool} {p q : Prog A} {ws : List ℕ} → b ≡ true → Able s (when b p q) ws → Able s p ws
able_taken {A} {s} {b} {p} {q} e a = record {
  within = a.within;
  memory = a.memory;
  agree = a.agree;
  safe = subst (λ (t : Bool). cond t (Safe (over s) p a.memory) (Safe (over s) q a.memory)) e a.safe;
}

pub able_passed : {A : Type 0} {s : Settings} {b : Bool} {p q : Prog A} {ws : List ℕ} → b ≡ false → Able s (when b p q) ws → Able s q ws
able_passed {A} {s} {b} {p} {q} e a = record {
  within = a.within;
  memory = a.memory;
  agree = a.agree;
  safe = subst (λ (t : Bool). cond t (Safe (over s) p a.memory) (Safe (over s) q a.memory)) e a.safe;
}

-- ---- a turn for each number of a list, or the program written in another way
pub able_likewise : {A : Type 0} {s : Settings} {p q : Prog A} {ws : List ℕ} → p ≡ q → Able s p ws → Able s q ws
able_likewise {A} {s} {p} {q} {ws} e a = subst (λ (r : Prog A). Able s r ws) e a

-- ---- the primitives
module _ (s : Settings) where
  valid_read : (f : Memory) (a : Address) → (over s).May a → Valid s a
  unfolding over
  valid_read f a v = v

  valid_write : (f : Memory) (a : Address) (v : ℕ) → (over s).Ok f a v → Valid s a
  unfolding over
  valid_write f a v h = h

  valid_wipe : (f : Memory) (n : ℕ) → (over s).Opens f n → Numbered s n
  unfolding over
  valid_wipe f n h = h

pub able_get : {A : Type 0} {s : Settings} (a : Address) {k : ℕ → Prog A} {ws : List ℕ} → Able s (get a k) ws → Valid s a
able_get {s = s} a x = valid_read s x.memory a x.safe.0

pub able_set : {A : Type 0} {s : Settings} (a : Address) {v : ℕ} {p : Prog A} {ws : List ℕ} → Able s (set a v p) ws → Valid s a
able_set {s = s} a {v} x = valid_write s x.memory a v x.safe.0

pub able_wipe : {A : Type 0} {s : Settings} {n : ℕ} {p : Prog A} {ws : List ℕ} → Able s (wipe n p) ws → Numbered s n
able_wipe {s = s} {n} x = valid_wipe s x.memory n x.safe.0

-- what the record of a slot tells
pub able_payload : {A : Type 0} {s : Settings} {n k : ℕ} {j : Payload → Prog A} {ws : List ℕ} → Able s (bind (get_payload n k) j) ws → Spot s n k
able_payload {n = n} {k} x =
    let v = able_get (Slot n k reading_word) (able_first (able_first x)) in
    record { within = x.within; block = v.0; slot = v.1 }
