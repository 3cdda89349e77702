-- INTERPRETERS: how addresses are found on the words. A program is run over any of them; the base has one (OnWords).
use Rattle.std.specs.Prelude.{◌≡◌, cond, List, ℕ, length}
use Rattle.layout.specs.declared.address.Address.{Address}
use Rattle.layout.specs.Address.{eq_a, of_block}
use Rattle.layout.specs.Memory.{Memory}

-- reading gives the memory wherever reading is allowed
pub record Same (read : Address → ℕ) (May : Address → Type 0) (f : Memory) : Type 0 where
  pub at : (a : Address) → May a → read a ≡ f a

-- Reading, writing and wiping a block on a list of words; which words are a store; what may be read, what may be written and wiped (by what the
-- memory holds); and the laws of reading after each. A law asks no more than what holds where a program runs.
pub record Interp : Type 1 where
  pub read : List ℕ → Address → ℕ
  pub write : List ℕ → Address → ℕ → List ℕ
  pub wipe : List ℕ → ℕ → List ℕ
  pub Good : List ℕ → Type 0
  pub May : Address → Type 0
  pub Ok : Memory → Address → ℕ → Type 0
  pub Opens : Memory → ℕ → Type 0
  pub length_write : (ws : List ℕ) (a : Address) (v : ℕ) → length (write ws a v) ≡ length ws
  pub length_wipe : (ws : List ℕ) (n : ℕ) → length (wipe ws n) ≡ length ws
  pub good_write : (ws : List ℕ) (f : Memory) (a : Address) (v : ℕ) → Good ws → Same (read ws) May f → Ok f a v → Good (write ws a v)
  pub good_wipe : (ws : List ℕ) (f : Memory) (n : ℕ) → Good ws → Same (read ws) May f → Opens f n → Good (wipe ws n)
  pub read_write : (ws : List ℕ) (f : Memory) (a x : Address) (v : ℕ) → Good ws → Same (read ws) May f → Ok f a v → May x
      → read (write ws a v) x ≡ cond (eq_a a x) v (read ws x)
  pub read_wipe : (ws : List ℕ) (f : Memory) (n : ℕ) (x : Address) → Good ws → Same (read ws) May f → Opens f n → May x
      → read (wipe ws n) x ≡ cond (of_block n x) 0 (read ws x)
