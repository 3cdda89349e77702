-- WHERE OUTPUT LINES GO: what a line that is handed to `emit` makes of a sink, and lines one after another. Which bytes a descriptor takes or
-- gives no contract can say: of a compared line, that it was equal or not.
use Rattle.std.specs.Prelude.{List, [], ◌∷◌, ℕ, ◌-◌, ℤ, Option, Some, None}
use Rattle.console_run.specs.Feed.{next_number}
use Rattle.console_io.specs.declared.sink.Sink.{Sink}
use Rattle.console_io.specs.declared.sink.Sink.TheVariants.{Write, Compare, Differs, Pick}

-- This line is handed to the first sink, and the second is what is left. Only `emit` gives one: no other proof makes it.
pub data Emitted (line : List ℕ) : Sink → Sink → Type 0 where
  written : (fd : ℤ) → Emitted line (Write fd) (Write fd)
  equal : (fd : ℤ) (lines : ℕ) → Emitted line (Compare fd lines) (Compare fd (next_number lines))
  other : (fd : ℤ) (lines : ℕ) → Emitted line (Compare fd lines) (Differs (next_number lines))
  late : (lines : ℕ) → Emitted line (Differs lines) (Differs lines)
  picked : (fd : ℤ) (left : ℕ) → Emitted line (Pick fd left) (Pick fd (left - 1))

-- These lines, in this order and no others.
pub data Sent : Sink → List (List ℕ) → Sink → Type 0 where
  none : {a : Sink} → Sent a [] a
  next : {a b c : Sink} {line : List ℕ} {more : List (List ℕ)} → Emitted line a b → Sent b more c → Sent a (line ∷ more) c

-- The first line that differs in a compared run, if one does: whether an expected line is left only its descriptor tells.
pub data FirstDifference : Sink → Option ℕ → Type 0 where
  unasked : (fd : ℤ) → FirstDifference (Write fd) None
  whole : (fd : ℤ) (lines : ℕ) → FirstDifference (Compare fd lines) None
  short : (fd : ℤ) (lines : ℕ) → FirstDifference (Compare fd lines) (Some (next_number lines))
  found : (line : ℕ) → FirstDifference (Differs line) (Some line)
  uncompared : (fd : ℤ) (left : ℕ) → FirstDifference (Pick fd left) None
