-- HISTORIES (document 01, "The claim over a whole list"): a list of calls from a fresh register, and what book, log, clock and counts make of it, fed
-- each call and whether it was accepted, and nothing else. And the refusals that such an account foretells, with no word of the store.
use Rattle.std.specs.Prelude.{Bool, cond, not, ◌||◌, List, [], ◌∷◌, ◌++◌, ℕ, ◌+◌, ◌*◌, ltb, leb, length}
use Rattle.layout.specs.declared.settings.Settings.{Settings}
use Rattle.layout.specs.Sizes.{row_len, layout_len}
use Rattle.layout.specs.RefusalNumbers.{SETTINGS, SHORT_STORE, TIME_OPEN, EARLY, LATE, TAG, STANDING, NOT_STANDING, SHORT_BUFFER, OUT_OF_BLOCKS, REVERSED}
use Rattle.layout.specs.Settings.{in_limits}
use Rattle.calls.specs.Calls.{Query, LookBack, Window, Call, Start, Set, Clear, Update, Advance, Ask, accepted}
use Rattle.calls.specs.Refusals.{Test, is_open}
use Rattle.calls.specs.Step.{step}
use Rattle.calls.specs.Book.{Book, empty_book, book_set, book_clear, book_update}
use Rattle.calls.specs.Log.{Log, so_far, among}

-- a call as it was heard: accepted or refused
pub record Heard : Type 0 where
  pub call : Call
  pub accepted : Bool

-- each call gets the store as the one before left it
abbrev pub words_after : List ℕ → List Call → List ℕ
words_after ws [] = ws
words_after ws (c ∷ l) = words_after (step ws c).store l

abbrev pub trace : List ℕ → List Call → List Heard
trace ws [] = []
trace ws (c ∷ l) = record { call = c; accepted = accepted (step ws c).answer } ∷ trace (step ws c).store l

pub record Account : Type 0 where
  -- those of the last accepted start
  pub settings : Settings
  -- 0 after a start, then the second of the last accepted change or clock move
  pub clock : ℕ
  pub book : Book
  pub log : Log
  -- how many sets and new readings were accepted
  pub sets : ℕ

abbrev pub opening : Settings → Account
opening s = record { settings = s; clock = 0; book = empty_book s; log = []; sets = 0 }

-- an accepted change at s: book and count after it, and the log with it
abbrev pub enters_change : Account → ℕ → Call → Book → ℕ → Account
enters_change a s c book sets = record { settings = a.settings; clock = s; book = book; log = a.log ++ (c ∷ []); sets = sets }

-- an accepted call; an accepted start begins all anew
abbrev pub enters : Account → Call → Account
enters a (Start s) = opening s
enters a (Set s tag reading) = enters_change a s (Set s tag reading) (book_set s tag a.book) (a.sets + 1)
enters a (Clear s tag) = enters_change a s (Clear s tag) (book_clear s tag a.book) a.sets
enters a (Update s tag reading) = enters_change a s (Update s tag reading) (book_update s tag a.book) (a.sets + 1)
enters a (Advance s) = record { settings = a.settings; clock = s; book = a.book; log = a.log; sets = a.sets }
enters a (Ask q) = a

-- refused calls change nothing
abbrev pub account : Account → List Heard → Account
account a [] = a
account a (x ∷ l) = account (cond x.accepted (enters a x.call) a) l

-- ---- the refusals of a call after a history, as a planner checks them by hand: by settings, clock, what stands so far and the book, with no word of
-- the store but how many it has. Refusals 2, 3 and 12 are not among them, and 4 is a start's alone.
-- the book would have more blocks than there are
abbrev pub out_of_blocks : Account → Book → Bool
out_of_blocks a after = ltb a.settings.blocks (length after.blocks)

-- a second that is OPEN, or is earlier than the clock
abbrev pub account_time : Account → ℕ → List Test → List Test
account_time a s l = record { number = TIME_OPEN; applies = is_open s } ∷ record { number = EARLY; applies = ltb s a.clock } ∷ l

-- of a clear or new reading, with the book that it would leave
abbrev pub account_clear : Account → ℕ → ℕ → Book → List Test
account_clear a s tag after =
    account_time a s (record { number = TAG; applies = leb a.settings.tags tag }
    ∷ record { number = NOT_STANDING; applies = not (among tag (so_far a.log)) }
    ∷ record { number = OUT_OF_BLOCKS; applies = out_of_blocks a after } ∷ [])

abbrev pub account_query : Account → Query → List Test
account_query a (LookBack t rows list) =
    record { number = TIME_OPEN; applies = is_open t }
    ∷ record { number = LATE; applies = ltb a.clock t }
    ∷ record { number = SHORT_BUFFER; applies = ltb (length rows) (row_len * a.settings.tags) || ltb (length list) a.settings.blocks } ∷ []
account_query a (Window first last rows) =
    record { number = TIME_OPEN; applies = is_open first || is_open last }
    ∷ record { number = REVERSED; applies = ltb last first }
    ∷ record { number = LATE; applies = ltb a.clock last }
    ∷ record { number = SHORT_BUFFER; applies = ltb (length rows) (row_len * a.settings.tags) } ∷ []

abbrev pub account_tests : ℕ → Account → Call → List Test
account_tests words a (Start s) =
    record { number = SETTINGS; applies = not (in_limits s) } ∷ record { number = SHORT_STORE; applies = ltb words (layout_len s) } ∷ []
account_tests words a (Set s tag reading) =
    account_time a s (record { number = TAG; applies = leb a.settings.tags tag }
    ∷ record { number = STANDING; applies = among tag (so_far a.log) }
    ∷ record { number = OUT_OF_BLOCKS; applies = out_of_blocks a (book_set s tag a.book) } ∷ [])
account_tests words a (Clear s tag) = account_clear a s tag (book_clear s tag a.book)
account_tests words a (Update s tag reading) = account_clear a s tag (book_update s tag a.book)
account_tests words a (Advance s) = account_time a s []
account_tests words a (Ask q) = account_query a q
