-- PROGRAMS: a call as a tree of reads and writes of addresses. It is run on the words, over an interpreter, and on a memory; the contracts speak of the
-- first, the theorems of the second, and ProgramLaws joins them.
use Rattle.std.specs.Prelude.{Bool, cond, List, [], ◌∷◌, ℕ}
use Rattle.layout.specs.declared.address.Address.{Address}
use Rattle.layout.specs.Memory.{Memory, put, wiped}
use Rattle.layout.specs.Interp.{Interp}

infixl 20 ◌>>=◌
infixl 20 ◌>>◌
pub data Prog : Type 0 → Type 1 where
  ret : {A : Type 0} → A → Prog A
  get : {A : Type 0} → Address → (ℕ → Prog A) → Prog A
  set : {A : Type 0} → Address → ℕ → Prog A → Prog A
  wipe : {A : Type 0} → ℕ → Prog A → Prog A
  bind : {A B : Type 0} → Prog B → (B → Prog A) → Prog A
  when : {A : Type 0} → Bool → Prog A → Prog A → Prog A

abbrev pub ◌>>=◌ : {A B : Type 0} → Prog A → (A → Prog B) → Prog B
◌>>=◌ p k = bind p k

abbrev pub ◌>>◌ : {A B : Type 0} → Prog A → Prog B → Prog B
◌>>◌ p q = bind p (λ x. q)

-- the primitives: read a word, write a word, set a block to zero
abbrev pub get! : Address → Prog ℕ
get! a = get a ret

abbrev pub set! : Address → ℕ → Prog (Unit {0})
set! a v = set a v (ret tt)

abbrev pub wipe! : ℕ → Prog (Unit {0})
wipe! n = wipe n (ret tt)

-- a turn for each number of a list, with what the one before left
unfoldable pub each : {A : Type 0} → (ℕ → A → Prog A) → List ℕ → A → Prog A
each body [] x = ret x
each body (k ∷ l) x = bind (body k x) (λ y. each body l y)

-- the answer and the words left
abbrev pub run : {A : Type 0} → Interp → Prog A → List ℕ → A × List ℕ
run i (ret x) ws = (x, ws)
run i (get a k) ws = run i (k (i.read ws a)) ws
run i (set a v p) ws = run i p (i.write ws a v)
run i (wipe n p) ws = run i p (i.wipe ws n)
run i (bind p k) ws = let z = run i p ws in run i (k z.0) z.1
run i (when b p q) ws = cond b (run i p ws) (run i q ws)

-- the answer and the memory left
abbrev pub run_on : {A : Type 0} → Prog A → Memory → A × Memory
run_on (ret x) f = (x, f)
run_on (get a k) f = run_on (k (f a)) f
run_on (set a v p) f = run_on p (put f a v)
run_on (wipe n p) f = run_on p (wiped f n)
run_on (bind p k) f = let z = run_on p f in run_on (k z.0) z.1
run_on (when b p q) f = cond b (run_on p f) (run_on q f)
