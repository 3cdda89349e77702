-- How large a reading's tenths are.
use Rattle.std.specs.Prelude.{ℕ, ◌^◌, ◌≤◌, ◌<◌}
use Rattle.std.proofs.Common.{arith, le-leb}
use Rattle.std.proofs.lemmas.Bool.{lt-leb}
use Rattle.base.specs.Branch.{lt?}
use Rattle.console_text.specs.Reading.{tenths_of}

-- The largest is 21,474,836.5 kN.
pub tenths_small : (reading : ℕ) → reading < 2 ^ 32 → tenths_of reading ≤ 214748365
tenths_small reading f = lt? reading 2147483648
    (λ h. rw (lt-leb 2147483648 reading h) (omega arith)) (λ h. rw (le-leb 2147483648 reading h) (omega arith))
