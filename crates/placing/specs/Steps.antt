-- What the contracts of placing name beside the programs of calls: one level of the index, a tag with a place, a block judged, and a clear and a new
-- reading as one.
use Rattle.std.specs.Prelude.{List, ℕ, ◌/◌, ◌%◌, ◌≤◌, eqb, ltb, length, Option, Some, None}
use Rattle.layout.specs.declared.settings.Settings.{Settings}
use Rattle.layout.specs.declared.head.Cursor.{Cursor}
use Rattle.layout.specs.declared.address.Address.TheVariants.{Time, Dir}
use Rattle.layout.specs.Program.{Prog, ret, when, ◌>>=◌, set!, each}
use Rattle.layout.specs.OnWords.{over}
use Rattle.calls.specs.Placing.{standing, unlink, clear_program, update_program}

-- the opening second of block i + 1 on a level that has the first time of each `every`
abbrev pub enter_first : ℕ → ℕ → ℕ → ℕ → Prog (Unit {0})
enter_first level every i now = when (eqb (i % every) 0) (set! (Time level (i / every)) now) (ret tt)

-- the directory has a place for the tag
pub record Listed (s : Settings) (ws : List ℕ) (tag : ℕ) : Type 0 where
  pub some : 1 ≤ (over s).read ws (Dir tag)

-- a block is judged, whatever the program by which its standing records move: `judge` and `judge_full` are cases of it (JudgeLaws)
unfoldable pub judge_by : (Settings → ℕ → ℕ → ℕ → Cursor → Prog Cursor) → Settings → Cursor → ℕ → ℕ → Prog Cursor
judge_by moves s c x now = do
  slots ← standing x
  when (ltb (length slots) s.useful) (unlink c x now >>= each (moves s x now) slots) (ret c)

-- a clear, or with a reading a new reading
abbrev pub clearing_program : Settings → Cursor → ℕ → ℕ → Option ℕ → Prog Cursor
clearing_program s c now tag None = clear_program s c now tag
clearing_program s c now tag (Some reading) = update_program s c now tag reading
