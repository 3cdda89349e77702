-- WHAT A RECORD TELLS beside its tag, from and to: a set or a new reading writes it, and every copy carries it whole.
use Rattle.std.specs.Prelude.{List, [], ◌∷◌, ℕ}
use Rattle.layout.specs.declared.address.Address.TheVariants.{Slot}
use Rattle.layout.specs.declared.payload.Payload.{Payload}
use Rattle.layout.specs.Fields.{reading_word, since_word}
use Rattle.layout.specs.Memory.{Memory}
use Rattle.layout.specs.Program.{Prog, ret, ◌>>=◌, ◌>>◌, get!, set! }
use Rattle.layout.specs.Parts.{slot_word}

-- what a set or a new reading at a second tells: its reading, as the word that is stored, and the second since which it stands
abbrev pub new_payload : ℕ → ℕ → Payload
new_payload reading now = record { reading = reading; since = now }

-- as words of a row, behind its tag
abbrev pub payload_words : Payload → List ℕ
payload_words p = p.reading ∷ p.since ∷ []

-- of the words of a record: in slot k of a block that is handed out, and of block n of a memory
abbrev pub payload_of : (ℕ → ℕ) → Payload
payload_of word = record { reading = word reading_word; since = word since_word }

abbrev pub payload_in : List ℕ → ℕ → Payload
payload_in block k = payload_of (λ i. slot_word block k i)

abbrev pub payload_at : Memory → ℕ → ℕ → Payload
payload_at f n k = payload_of (λ i. f (Slot n k i))

-- read from a slot, and written to one
abbrev pub get_payload : ℕ → ℕ → Prog Payload
get_payload n k = do
  reading ← get! (Slot n k reading_word)
  since ← get! (Slot n k since_word)
  ret (record { reading = reading; since = since })

abbrev pub set_payload : ℕ → ℕ → Payload → Prog (Unit {0})
set_payload n k p = do
  set! (Slot n k reading_word) p.reading
  set! (Slot n k since_word) p.since
