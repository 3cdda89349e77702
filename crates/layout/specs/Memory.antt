-- MEMORIES: the words of a store as a function of their addresses.
use Rattle.std.specs.Prelude.{cond, ℕ}
use Rattle.layout.specs.declared.address.Address.{Address}
use Rattle.layout.specs.Address.{eq_a, of_block}

abbrev pub Memory : Type 0
Memory = Address → ℕ

-- one word written
abbrev pub put : Memory → Address → ℕ → Memory
put f a v x = cond (eq_a a x) v (f x)

-- all words of block n set to zero
abbrev pub wiped : Memory → ℕ → Memory
wiped f n x = cond (of_block n x) 0 (f x)
