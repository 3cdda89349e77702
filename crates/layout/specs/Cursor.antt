-- THE MOVING PART OF THE HEAD: how a change moves it on, and the program that stores it.
use Rattle.std.specs.Prelude.{ℕ, ◌+◌}
use Rattle.layout.specs.declared.head.Cursor.{Cursor}
use Rattle.layout.specs.declared.address.Address.TheVariants.{Head}
use Rattle.layout.specs.Fields.{head_opened, head_clock, head_fill, head_child, head_right}
use Rattle.layout.specs.Program.{Prog, ◌>>◌, set! }

-- the clock stands at s
abbrev pub at : ℕ → Cursor → Cursor
at s c = record { opened = c.opened; clock = s; fill = c.fill; child = c.child; right = c.right }

-- one record more in the acceptor
abbrev pub filled : Cursor → Cursor
filled c = record { opened = c.opened; clock = c.clock; fill = c.fill + 1; child = c.child; right = c.right }

-- one block more, empty; r is right of block 0
abbrev pub grown : ℕ → Cursor → Cursor
grown r c = record { opened = c.opened + 1; clock = c.clock; fill = 0; child = c.child; right = r }

-- block 0's last child and right
abbrev pub relinked : ℕ → ℕ → Cursor → Cursor
relinked k r c = record { opened = c.opened; clock = c.clock; fill = c.fill; child = k; right = r }

unfoldable pub store_cursor : Cursor → Prog (Unit {0})
store_cursor c = do
  set! (Head head_opened) c.opened
  set! (Head head_clock) c.clock
  set! (Head head_fill) c.fill
  set! (Head head_child) c.child
  set! (Head head_right) c.right
