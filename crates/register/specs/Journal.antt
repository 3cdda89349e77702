-- A JOURNAL OF CHANGES and what a replay of it leaves: the run of its history (calls.specs.History). Six words an entry: its kind and five numbers,
-- of which a kind uses the first ones. An entry of no kind ends the journal (0 is none), and so does one that is cut short.
use Rattle.std.specs.Prelude.{◌≡◌, Bool, cond, List, [], ◌∷◌, ℕ, ◌+◌, eqb, length, get_or, Option, Some, None}
use Rattle.base.specs.Sums.{is}
use Rattle.layout.specs.Settings.{settings_of}
use Rattle.calls.specs.Calls.{Call, Start, Set, Clear, Update, Advance, accepted}
use Rattle.calls.specs.Step.{step}
use Rattle.calls.specs.History.{Heard, words_after, trace}
use Rattle.register.specs.declared.journal.Tally.{Tally}

-- an entry: a change, or none that is known
pub data JournalEntry : Type 0 where
  says : Call → JournalEntry
  nothing : JournalEntry

abbrev pub entry_of : ℕ → ℕ → ℕ → ℕ → ℕ → JournalEntry
entry_of kind a b c d =
    cond (eqb kind 1) (says (Start (settings_of a b c d)))
    (cond (eqb kind 2) (says (Set a b c))
    (cond (eqb kind 3) (says (Clear a b))
    (cond (eqb kind 4) (says (Update a b c))
    (cond (eqb kind 5) (says (Advance a))
    nothing))))

abbrev pub before : JournalEntry → List Call → List Call
before (says c) rest = c ∷ rest
before nothing rest = []

-- the calls of a journal, in order
unfoldable pub journal_of : List ℕ → List Call
journal_of [] = []
journal_of (kind ∷ []) = []
journal_of (kind ∷ a ∷ []) = []
journal_of (kind ∷ a ∷ b ∷ []) = []
journal_of (kind ∷ a ∷ b ∷ c ∷ []) = []
journal_of (kind ∷ a ∷ b ∷ c ∷ d ∷ []) = []
journal_of (kind ∷ a ∷ b ∷ c ∷ d ∷ e ∷ rest) = before (entry_of kind a b c d) (journal_of rest)

-- how many calls were accepted
abbrev pub accepted_in : List Heard → ℕ
accepted_in [] = 0
accepted_in (x ∷ l) = is x.accepted + accepted_in l

-- The contract of a replay: the words that the journal's calls leave, how many entries were read, and how many of these were accepted.
pub record Replayed (ws journal : List ℕ) (r : Tally) (ws' : List ℕ) : Type 0 where
  pub store : ws' ≡ words_after ws (journal_of journal)
  pub entries : r.entries ≡ length (journal_of journal)
  pub accepted : r.accepted ≡ accepted_in (trace ws (journal_of journal))

-- ---- the parts: the entry that begins at a place
abbrev pub entry_at : List ℕ → ℕ → JournalEntry
entry_at j at = entry_of (get_or j at 0) (get_or j (at + 1) 0) (get_or j (at + 2) 0) (get_or j (at + 3) 0) (get_or j (at + 4) 0)

-- whether an entry is accepted, none where it ends the journal; and the words after it
abbrev pub playing : List ℕ → JournalEntry → Option Bool
playing ws (says c) = Some (accepted (step ws c).answer)
playing ws nothing = None

abbrev pub after_entry : List ℕ → JournalEntry → List ℕ
after_entry ws (says c) = (step ws c).store
after_entry ws nothing = ws

pub record Plays (ws : List ℕ) (e : JournalEntry) (r : Option Bool) (ws' : List ℕ) : Type 0 where
  pub counted : r ≡ playing ws e
  pub store : ws' ≡ after_entry ws e
