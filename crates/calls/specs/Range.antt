-- A RANGE OF SECONDS, from a first to a last, both included (document 02, request 2; requests 8 and 13 ask in the same way and read the same records): how
-- such a question is turned away, the records that are read for it, and which of these stood in it.
use Rattle.std.specs.Prelude.{Bool, cond, ◌&&◌, ◌||◌, List, [], ◌∷◌, map, ℕ, suc, eqb, ltb, leb}
use Rattle.base.specs.Lists.{joined, those}
use Rattle.layout.specs.declared.settings.Settings.{Settings}
use Rattle.layout.specs.declared.head.Head.{Head}
use Rattle.layout.specs.declared.payload.Payload.{Payload}
use Rattle.layout.specs.Fields.{opened_word, closed_word, tag_word, from_word, to_word}
use Rattle.layout.specs.RefusalNumbers.{TIME_OPEN, LATE, REVERSED, UNSOUND}
use Rattle.layout.specs.Head.{head_of}
use Rattle.layout.specs.Payload.{payload_in}
use Rattle.layout.specs.Parts.{block_word, slot_word}
use Rattle.layout.specs.Places.{place_of}
use Rattle.calls.specs.Calls.{Answer, Refused, QueryReply}
use Rattle.calls.specs.Walk.{Reader}
use Rattle.calls.specs.Refusals.{Test, refusal, is_open}
use Rattle.calls.specs.LookBack.{reader, zeros}

-- ---- turned away: "14, t2 before t1, after refusal 5, which both times must pass; refusal 7 looks at t2"
-- its own tests, behind those of the store
abbrev pub range_own : Head → ℕ → ℕ → List Test → List Test
range_own h first last l =
    record { number = TIME_OPEN; applies = is_open first || is_open last }
    ∷ record { number = REVERSED; applies = ltb last first }
    ∷ record { number = LATE; applies = ltb h.cursor.clock last } ∷ l

-- ---- the records that are read, each with its place
pub record PlacedRecord : Type 0 where
  pub place : ℕ
  pub tag : ℕ
  pub payload : Payload
  pub from : ℕ
  pub to : ℕ

-- slot k of block n, whose words these are
abbrev pub record_in : Settings → ℕ → List ℕ → ℕ → PlacedRecord
record_in s n block k = record {
  place = place_of s n k;
  tag = slot_word block k tag_word;
  payload = payload_in block k;
  from = slot_word block k from_word;
  to = slot_word block k to_word;
}

-- "Of blocks 1 to N those opened by t2 and not closed by t1 are read, all b slots"
module _ (first last : ℕ) where
  unfoldable pub is_read : List ℕ → Bool
  is_read block = leb (block_word block opened_word) last && ltb first (block_word block closed_word)

  unfoldable pub block_records : Settings → ℕ → List ℕ → List PlacedRecord
  block_records s n block = cond (is_read block) (joined (λ k. record_in s n block k ∷ []) s.block) []

  unfoldable pub read_records : Settings → Reader → ℕ → List PlacedRecord
  read_records s R N = joined (λ m. block_records s (suc m) (R.block (suc m))) N

  -- "stood in the window": at some second of it, so that a record whose from is its to never did
  unfoldable pub stood_in : PlacedRecord → Bool
  stood_in r = leb r.from last && ltb first r.to && ltb r.from r.to

  -- the records of a store that are read and stood in the range, in the order of their places
  unfoldable pub crossing : List ℕ → List PlacedRecord
  crossing ws = let h = head_of ws in those stood_in (read_records h.settings (reader ws) h.cursor.opened)

-- ---- the reply, by the tests: answered; or refusal 12, which fills all buffers with zeros; or another refusal, with all words as before
abbrev pub zeroed : List (List ℕ) → List (List ℕ)
zeroed l = map zeros l

abbrev pub range_reply : List Test → Answer → List (List ℕ) → List (List ℕ) → QueryReply
range_reply tests answer after before =
    let n = refusal tests in
    cond (eqb n 0) (record { answer = answer; lent = after })
    (cond (eqb n UNSOUND) (record { answer = Refused UNSOUND; lent = zeroed before }) (record { answer = Refused n; lent = before }))
