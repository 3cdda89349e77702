-- EVERY CALL ON ANY WORDS (demands 1 and 2), by its kind.
use Rattle.std.specs.Prelude.{ℕ, List}
use Rattle.calls.specs.Calls.{Call, Start, Set, Clear, Update, Advance, Ask, LookBack, Window}
use Rattle.calls.specs.Claims.{EveryCall}
use Rattle.theory.specs.EveryCall.{every_start, every_set, every_clear, every_update, every_advance}
use Rattle.theory.specs.EveryLookBack.{every_look_back}
use Rattle.theory.specs.EveryWindow.{every_window}

pub every_call : (ws : List ℕ) (c : Call) → EveryCall ws c
every_call ws (Start s) = every_start ws s
every_call ws (Set s tag reading) = every_set ws s tag reading
every_call ws (Clear s tag) = every_clear ws s tag
every_call ws (Update s tag reading) = every_update ws s tag reading
every_call ws (Advance s) = every_advance ws s
every_call ws (Ask (LookBack t rows list)) = every_look_back ws t rows list
every_call ws (Ask (Window first last rows)) = every_window ws first last rows
