-- THE REFUSALS BY NAME (document 01, "When a call is turned away"; from 14 on document 02): src/refusal.rt has the same names, include/register.h with REGISTER_ before them.
use Rattle.std.specs.Prelude.{ℕ, Result, Ok, Err}
use Rattle.layout.specs.declared.refusal.Refusal.{Refusal}
use Rattle.layout.specs.declared.refusal.Refusal.TheVariants as refusal

abbrev pub SETTINGS : ℕ
SETTINGS = 1

abbrev pub SHORT_HEAD : ℕ
SHORT_HEAD = 2

abbrev pub HEAD : ℕ
HEAD = 3

abbrev pub SHORT_STORE : ℕ
SHORT_STORE = 4

abbrev pub TIME_OPEN : ℕ
TIME_OPEN = 5

abbrev pub EARLY : ℕ
EARLY = 6

abbrev pub LATE : ℕ
LATE = 7

abbrev pub TAG : ℕ
TAG = 8

abbrev pub STANDING : ℕ
STANDING = 9

abbrev pub NOT_STANDING : ℕ
NOT_STANDING = 10

abbrev pub SHORT_BUFFER : ℕ
SHORT_BUFFER = 11

abbrev pub UNSOUND : ℕ
UNSOUND = 12

abbrev pub OUT_OF_BLOCKS : ℕ
OUT_OF_BLOCKS = 13

abbrev pub REVERSED : ℕ
REVERSED = 14

abbrev pub number : Refusal → ℕ
number refusal.Settings = SETTINGS
number refusal.ShortHead = SHORT_HEAD
number refusal.Head = HEAD
number refusal.ShortStore = SHORT_STORE
number refusal.TimeOpen = TIME_OPEN
number refusal.Early = EARLY
number refusal.Late = LATE
number refusal.Tag = TAG
number refusal.Standing = STANDING
number refusal.NotStanding = NOT_STANDING
number refusal.ShortBuffer = SHORT_BUFFER
number refusal.Unsound = UNSOUND
number refusal.OutOfBlocks = OUT_OF_BLOCKS
number refusal.Reversed = REVERSED

-- what a test answers, as a number: 0 where it passes
abbrev pub refused : {A : Type 0} → Result A Refusal → ℕ
refused (Ok a) = 0
refused (Err r) = number r
