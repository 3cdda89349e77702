-- A program goes well on a memory: each address that it meets is the layout's (Safe), and what it answers and leaves has Q. One rule for each form of a
-- program; a law of a part of a change is one such statement.
use Rattle.std.specs.Prelude.{◌≡◌, Bool, true, false, List, [], ◌∷◌, ℕ, ◌<◌}
use Rattle.std.proofs.Common.{lit≤}
use Rattle.base.specs.Branch.{by_test}
use Rattle.layout.specs.declared.settings.Settings.{Settings}
use Rattle.layout.specs.declared.address.Address.{Address}
use Rattle.layout.specs.declared.payload.Payload.{Payload}
use Rattle.layout.specs.Address.{Valid, Numbered}
use Rattle.layout.specs.Memory.{Memory, put, wiped}
use Rattle.layout.specs.Program.{Prog, ret, bind, when, get!, set!, wipe!, each, run_on}
use Rattle.layout.specs.ProgramLaws.{Safe}
use Rattle.layout.specs.Payload.{payload_at, get_payload, set_payload}
use Rattle.layout.specs.OnWords.{on_words}

pub record Goes {A : Type 0} (s : Settings) (p : Prog A) (f : Memory) (Q : A → Memory → Type 0) : Type 0 where
  pub safe : Safe (on_words s) p f
  pub leaves : Q (run_on p f).0 (run_on p f).1

-- ---- a word is read or written, a block is wiped, then the rest
pub goes_get : {A : Type 0} {s : Settings} {a : Address} {k : ℕ → Prog A} {f : Memory} {R : A → Memory → Type 0} → Valid s a
    → Goes s (k (f a)) f R → Goes s (bind (get! a) k) f R
goes_get v g = record { safe = ((v, tt), g.safe); leaves = g.leaves }

pub goes_set : {A : Type 0} {s : Settings} {a : Address} {v : ℕ} {k : Unit {0} → Prog A} {f : Memory} {R : A → Memory → Type 0} → Valid s a
    → Goes s (k tt) (put f a v) R → Goes s (bind (set! a v) k) f R
goes_set v g = record { safe = ((v, tt), g.safe); leaves = g.leaves }

pub goes_wipe : {A : Type 0} {s : Settings} {n : ℕ} {k : Unit {0} → Prog A} {f : Memory} {R : A → Memory → Type 0} → Numbered s n
    → Goes s (k tt) (wiped f n) R → Goes s (bind (wipe! n) k) f R
goes_wipe v g = record { safe = ((v, tt), g.safe); leaves = g.leaves }

-- ---- what a record tells is read or written, then the rest
module _ {A : Type 0} {s : Settings} {n k : ℕ} {f : Memory} {R : A → Memory → Type 0} (block : Numbered s n) (slot : k < s.block) where
  pub goes_read : {j : Payload → Prog A} → Goes s (j (payload_at f n k)) f R → Goes s (bind (get_payload n k) j) f R
  goes_read g = record { safe = ((((block, slot, lit≤ tt), tt), (((block, slot, lit≤ tt), tt), tt)), g.safe); leaves = g.leaves }

  pub goes_write : {p : Payload} {j : Unit {0} → Prog A} → Goes s (j tt) (run_on (set_payload n k p) f).1 R → Goes s (bind (set_payload n k p) j) f R
  goes_write g = record { safe = ((((block, slot, lit≤ tt), tt), ((block, slot, lit≤ tt), tt)), g.safe); leaves = g.leaves }

-- ---- nothing done, a part and then the rest, a branch
pub goes_ret : {A : Type 0} {s : Settings} {x : A} {f : Memory} {Q : A → Memory → Type 0} → Q x f → Goes s (ret x) f Q
goes_ret q = record { safe = tt; leaves = q }

pub goes_on : {A B : Type 0} {s : Settings} {p : Prog A} {k : A → Prog B} {f : Memory} {Q : A → Memory → Type 0} {R : B → Memory → Type 0}
    → Goes s p f Q → ((x : A) (g : Memory) → Q x g → Goes s (k x) g R) → Goes s (bind p k) f R
goes_on {p = p} {f = f} a h =
    let r = h (run_on p f).0 (run_on p f).1 a.leaves in
    record { safe = (a.safe, r.safe); leaves = r.leaves }

pub goes_when : {A : Type 0} {s : Settings} {b : Bool} {p q : Prog A} {f : Memory} {R : A → Memory → Type 0}
    → (b ≡ true → Goes s p f R) → (b ≡ false → Goes s q f R) → Goes s (when b p q) f R
goes_when {s = s} {b} {p} {q} {f} {R} g h = by_test b (λ t. Goes s (when t p q) f R)
    (λ e. record { safe = (g e).safe; leaves = (g e).leaves })
    (λ e. record { safe = (h e).safe; leaves = (h e).leaves })

-- ---- a turn for each number of a list: P says what holds with these still to do
pub goes_each : {A : Type 0} {s : Settings} (body : ℕ → A → Prog A) (P : List ℕ → A → Memory → Type 0)
    → ((k : ℕ) (l : List ℕ) (x : A) (f : Memory) → P (k ∷ l) x f → Goes s (body k x) f (P l))
    → (l : List ℕ) (x : A) (f : Memory) → P l x f → Goes s (each body l x) f (P [])
unfolding each
goes_each body P h [] x f p = record { safe = tt; leaves = p }
goes_each body P h (k ∷ l) x f p = goes_on (h k l x f p) (λ y g q. goes_each body P h l y g q)

-- ---- what is left has more than is asked
pub goes_so : {A : Type 0} {s : Settings} {p : Prog A} {f : Memory} {Q R : A → Memory → Type 0}
    → Goes s p f Q → ((x : A) (g : Memory) → Q x g → R x g) → Goes s p f R
goes_so {p = p} {f} a h = record { safe = a.safe; leaves = h (run_on p f).0 (run_on p f).1 a.leaves }
