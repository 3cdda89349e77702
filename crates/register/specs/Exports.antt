-- WHAT A CALLER IN C OR RUST IS TOLD: 0 for an accepted call, else the refusal's number, and all lent words as the definition leaves them.
use Rattle.std.specs.Prelude.{◌≡◌, cond, List, [], ◌∷◌, ℕ, get_or, None}
use Rattle.std.specs.Option.{unwrap_or}
use Rattle.std.proofs.lemmas.List.Edits.{sets}
use Rattle.layout.specs.declared.settings.Settings.{Settings}
use Rattle.layout.specs.Sizes.{OPEN, layout_len}
use Rattle.layout.specs.Settings.{in_limits}
use Rattle.calls.specs.Calls.{Query, Ask, LookBack, View, Answer, Done, Shown, Numbers, Refused, Reply}
use Rattle.calls.specs.Step.{step}
use Rattle.timeslice.specs.declared.Slice.{Slice}
use Rattle.register.specs.declared.journal.Tally.{Tally}
use Rattle.register.specs.Journal.{Replayed}

abbrev pub number_of : Answer → ℕ
number_of (Done h) = 0
number_of (Shown v) = 0
number_of (Numbers l) = 0
number_of (Refused n) = n

-- a start, change or clock move
pub record Exported (r : Reply) (n : ℕ) (words : List ℕ) : Type 0 where
  pub number : n ≡ number_of r.answer
  pub store : words ≡ r.store

-- rows, pages read, blocks listed, and the page passed on each of the three levels, OPEN for none: of a view,
abbrev pub view_words : View → List ℕ
view_words v =
    v.counts.rows ∷ v.counts.pages ∷ v.counts.blocks ∷ get_or v.pages 0 OPEN ∷ get_or v.pages 1 OPEN ∷ get_or v.pages 2 OPEN ∷ []

-- and of what a look-back answers in code
abbrev pub six_words : Slice → List ℕ
six_words s =
    s.counts.rows ∷ s.counts.pages ∷ s.counts.blocks ∷ unwrap_or (get_or s.pages 0 None) OPEN ∷ unwrap_or (get_or s.pages 1 None) OPEN
    ∷ unwrap_or (get_or s.pages 2 None) OPEN
    ∷ []

-- the six words are written by an answered look-back; a refusal leaves them
abbrev pub six_after : Answer → List ℕ → List ℕ
six_after (Done h) six = six
six_after (Shown v) six = sets six 0 (view_words v)
six_after (Numbers l) six = six
six_after (Refused n) six = six

-- a look-back: its number, its two buffers and the six words; the store is lent to be read only
pub record ExportedLookBack (ws : List ℕ) (t : ℕ) (rows list six : List ℕ) (n : ℕ) (rows' list' six' : List ℕ) : Type 0 where
  pub number : n ≡ number_of (step ws (Ask (LookBack t rows list))).answer
  pub buffers : rows' ∷ list' ∷ [] ≡ (step ws (Ask (LookBack t rows list))).lent
  pub six-words : six' ≡ six_after (step ws (Ask (LookBack t rows list))).answer six

-- the numbers of another query's answer are written behind one another; a refusal leaves the words lent for them
abbrev pub numbers_after : Answer → List ℕ → List ℕ
numbers_after (Done h) lent = lent
numbers_after (Shown v) lent = lent
numbers_after (Numbers l) lent = sets lent 0 l
numbers_after (Refused n) lent = lent

-- a query that answers numbers: its own number, its buffers and the words lent for the answer
pub record ExportedQuery (ws : List ℕ) (q : Query) (answer : List ℕ) (n : ℕ) (buffers' : List (List ℕ)) (answer' : List ℕ) : Type 0 where
  pub number : n ≡ number_of (step ws (Ask q)).answer
  pub buffers : buffers' ≡ (step ws (Ask q)).lent
  pub answered : answer' ≡ numbers_after (step ws (Ask q)).answer answer

-- the words that a store takes, 0 for settings that a start refuses
abbrev pub words_for : Settings → ℕ
words_for s = cond (in_limits s) (layout_len s) 0

-- a replay: what is true of the replay itself, and its two numbers, entries read and entries accepted
pub record ExportedReplay (ws journal two ws' two' : List ℕ) : Type 0 where
  pub tally : Tally
  pub replayed : Replayed ws journal tally ws'
  pub numbers : two' ≡ sets two 0 (tally.entries ∷ tally.accepted ∷ [])
