-- The loop's invariant: the blocks before n are noted.
use Rattle.std.proofs.Common.{◌+◌, ◌-◌, ◌≤◌}
use Rattle.window.specs.Noted.{NotedBlocks}
use Rattle.window.proofs.span.Span.note_blocks.Given as goal

abbrev pub invariant-loop-n : goal.invariant-loop-n
invariant-loop-n l = record { within : l.n ≤ l.self.opened.head.cursor.opened + 1; before : NotedBlocks l.self (l.n - 1) l.best }
