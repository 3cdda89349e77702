-- WHEN A CALL IS TURNED AWAY (document 01): for each call its refusals in order, each a number with its condition, a total test of the arguments
-- and of the words as the call finds them. The answer is the first that applies.
use Rattle.std.specs.Prelude.{Bool, false, cond, not, ◌&&◌, ◌||◌, List, [], ◌∷◌, ℕ, zero, suc, ◌+◌, ◌*◌, ◌-◌, eqb, ltb, leb, length}
use Rattle.layout.specs.declared.settings.Settings.{Settings}
use Rattle.layout.specs.declared.head.Head.{Head}
use Rattle.layout.specs.declared.standing.Standing.{Standing}
use Rattle.layout.specs.declared.address.Address.TheVariants.{Dir, Field, Slot}
use Rattle.layout.specs.Sizes.{OPEN, head_len, row_len, layout_len}
use Rattle.layout.specs.Fields.{up_word, right_word, tag_word}
use Rattle.layout.specs.Memory.{Memory}
use Rattle.layout.specs.RefusalNumbers.{SETTINGS, SHORT_HEAD, HEAD, SHORT_STORE, TIME_OPEN, EARLY, LATE, TAG, STANDING, NOT_STANDING, SHORT_BUFFER, UNSOUND, OUT_OF_BLOCKS}
use Rattle.layout.specs.Settings.{in_limits}
use Rattle.layout.specs.Head.{head_of, bad_head, placed}
use Rattle.layout.specs.Standing.{block_bits, slots, stands, raised, lowered}
use Rattle.calls.specs.Placing.{block_of, slot_of}

pub record Test : Type 0 where
  pub number : ℕ
  pub applies : Bool

-- the first that applies, 0 if none does
abbrev pub refusal : List Test → ℕ
refusal [] = 0
refusal (t ∷ l) = cond t.applies t.number (refusal l)

-- ---- what a change will do, by the words that it finds
-- incoming records, copies counted, open a block if there are any and the acceptor has no room for all of them
abbrev pub opens : Head → ℕ → Bool
opens h incoming = ltb 0 incoming && (eqb h.cursor.opened 0 || ltb h.settings.block (h.cursor.fill + incoming))

-- n slots from k on made to stand
abbrev pub taken_up : Standing → ℕ → ℕ → Standing
taken_up b k zero = b
taken_up b k (suc n) = taken_up (raised b k) (k + 1) n

-- the old acceptor, with standing bits b, is judged once its free slots are taken; by then each of these stands
abbrev pub acceptor_closes : Head → Standing → ℕ → Bool
acceptor_closes h b incoming =
    opens h incoming && (not (eqb h.cursor.opened 0)
    && ltb (length (slots (taken_up b h.cursor.fill (h.settings.block - h.cursor.fill)))) h.settings.useful)

abbrev pub any_of : {A : Type 0} → (A → Bool) → List A → Bool
any_of p [] = false
any_of p (k ∷ l) = p k || any_of p l

module _ (h : Head) (f : Memory) where
  -- A clear ends a standing record of its tag's block. That block closes if it is not the acceptor and fewer than q remain; these are its copies.
  abbrev pub tag_block : ℕ → ℕ
  tag_block tag = block_of h.settings (f (Dir tag))

  abbrev pub remaining : ℕ → ℕ
  remaining n = length (slots (block_bits f n)) - 1

  abbrev pub closes : ℕ → Bool
  closes n = not (eqb n h.cursor.opened) && ltb (remaining n) h.settings.useful

  abbrev pub copies : ℕ → ℕ
  copies n = cond (closes n) (remaining n) 0

  -- the acceptor's standing bits, with the tag's record ended if it lies there
  abbrev pub after_clear : ℕ → Standing
  after_clear tag =
      let b = block_bits f h.cursor.opened in
      cond (eqb (tag_block tag) h.cursor.opened) (lowered b (slot_of h.settings (f (Dir tag)))) b

  -- ---- refusal 12 of a change
  -- a place above the records placed, or whose record has another tag or no standing bit
  unfoldable pub bad_place : ℕ → Bool
  bad_place tag =
      let p = f (Dir tag) in
      let n = block_of h.settings p in
      let k = slot_of h.settings p in
      ltb (placed h) p || not (eqb (f (Slot n k tag_word)) tag) || not (stands (block_bits f n) k)

  -- of a block that will close: an up not below it, a right (unless it is the acceptor) not above it and up to N, a standing bit at b or
  -- higher, a standing tag of D or more
  unfoldable pub bad_block : ℕ → Bool
  bad_block n =
      let right = f (Field n right_word) in
      leb n (f (Field n up_word))
      || (not (eqb n h.cursor.opened) && not (ltb n right && leb right h.cursor.opened))
      || any_of (λ k. leb h.settings.block k || leb h.settings.tags (f (Slot n k tag_word))) (slots (block_bits f n))

  unfoldable pub unsound_set : Bool
  unsound_set = acceptor_closes h (block_bits f h.cursor.opened) 1 && bad_block h.cursor.opened

  -- a clear (more = 0) or a new reading (more = 1)
  unfoldable pub unsound_clear : ℕ → ℕ → Bool
  unsound_clear more tag =
      bad_place tag || (closes (tag_block tag) && bad_block (tag_block tag))
      || (acceptor_closes h (after_clear tag) (copies (tag_block tag) + more) && bad_block h.cursor.opened)

-- ---- refusal 13: the change would open a block and N = B
unfoldable pub blocks_out : Head → ℕ → Bool
blocks_out h incoming = opens h incoming && eqb h.cursor.opened h.settings.blocks

-- ---- the tables
abbrev pub start_tests : Settings → List ℕ → List Test
start_tests s ws =
    record { number = SETTINGS; applies = not (in_limits s) }
    ∷ record { number = SHORT_HEAD; applies = ltb (length ws) head_len }
    ∷ record { number = SHORT_STORE; applies = ltb (length ws) (layout_len s) } ∷ []

-- every other call reads the head, then looks at its second
abbrev pub store_tests : List ℕ → List Test → List Test
store_tests ws l =
    record { number = SHORT_HEAD; applies = ltb (length ws) head_len }
    ∷ record { number = HEAD; applies = bad_head ws }
    ∷ record { number = SHORT_STORE; applies = ltb (length ws) (layout_len (head_of ws).settings) } ∷ l

-- a set's own
abbrev pub set_own : Head → Memory → ℕ → List Test
set_own h f tag =
    record { number = TAG; applies = leb h.settings.tags tag }
    ∷ record { number = STANDING; applies = not (eqb (f (Dir tag)) 0) }
    ∷ record { number = UNSOUND; applies = unsound_set h f }
    ∷ record { number = OUT_OF_BLOCKS; applies = blocks_out h 1 } ∷ []

-- those of a clear (more = 0) or a new reading (more = 1)
abbrev pub clear_own : ℕ → Head → Memory → ℕ → List Test
clear_own more h f tag =
    record { number = TAG; applies = leb h.settings.tags tag }
    ∷ record { number = NOT_STANDING; applies = eqb (f (Dir tag)) 0 }
    ∷ record { number = UNSOUND; applies = unsound_clear h f more tag }
    ∷ record { number = OUT_OF_BLOCKS; applies = blocks_out h (copies h f (tag_block h f tag) + more) } ∷ []

-- a time that is OPEN (no word is above it)
abbrev pub is_open : ℕ → Bool
is_open s = leb OPEN s

-- a change or clock move at s
abbrev pub time_tests : List ℕ → ℕ → List Test → List Test
time_tests ws s l =
    store_tests ws (record { number = TIME_OPEN; applies = is_open s }
    ∷ record { number = EARLY; applies = ltb s (head_of ws).cursor.clock } ∷ l)

abbrev pub set_tests : List ℕ → Memory → ℕ → ℕ → List Test
set_tests ws f s tag = time_tests ws s (set_own (head_of ws) f tag)

abbrev pub clear_tests : ℕ → List ℕ → Memory → ℕ → ℕ → List Test
clear_tests more ws f s tag = time_tests ws s (clear_own more (head_of ws) f tag)

-- a look-back's own, at t with buffers of these lengths; the last is the walk's
abbrev pub look_back_own : Head → ℕ → ℕ → ℕ → Bool → List Test
look_back_own h t rows list unsound =
    record { number = TIME_OPEN; applies = is_open t }
    ∷ record { number = LATE; applies = ltb h.cursor.clock t }
    ∷ record { number = SHORT_BUFFER; applies = ltb rows (row_len * h.settings.tags) || ltb list h.settings.blocks }
    ∷ record { number = UNSOUND; applies = unsound } ∷ []

abbrev pub look_back_tests : List ℕ → ℕ → ℕ → ℕ → Bool → List Test
look_back_tests ws t rows list unsound = store_tests ws (look_back_own (head_of ws) t rows list unsound)
