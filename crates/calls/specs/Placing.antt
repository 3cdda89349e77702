-- THE CHANGES AS PROGRAMS (document 01, "Placing and closing"). A program threads the cursor: N, clock, fill and block 0's two links.
use Rattle.std.specs.Prelude.{◌||◌, List, ℕ, ◌+◌, ◌*◌, ◌/◌, ◌%◌, eqb, ltb, length}
use Rattle.base.specs.Bits.{with_bit, without_bit}
use Rattle.base.specs.Slots.{slots_of}
use Rattle.layout.specs.declared.settings.Settings.{Settings}
use Rattle.layout.specs.declared.head.Cursor.{Cursor}
use Rattle.layout.specs.declared.payload.Payload.{Payload}
use Rattle.layout.specs.declared.address.Address.TheVariants.{Time, Dir, Field, Bits, Slot}
use Rattle.layout.specs.Sizes.{OPEN, page_len}
use Rattle.layout.specs.Fields.{opened_word, closed_word, up_word, left_word, child_word, right_word, tag_word, from_word, to_word}
use Rattle.layout.specs.Program.{Prog, ret, when, ◌>>=◌, ◌>>◌, get!, set!, wipe!, each}
use Rattle.layout.specs.Payload.{new_payload, get_payload, set_payload}
pub use Rattle.layout.specs.Places.{place_of, block_of, slot_of}
use Rattle.layout.specs.Cursor.{at, filled, grown, relinked, store_cursor}

-- ---- the parts of a change
-- the opening second of block i + 1 on the three levels: each time, the first time of each 16, the first of each 16 of these
unfoldable pub enter_time : ℕ → ℕ → Prog (Unit {0})
enter_time i now = do
  set! (Time 0 i) now
  when (eqb (i % page_len) 0) (set! (Time 1 (i / page_len)) now) (ret tt)
  when (eqb (i % (page_len * page_len)) 0) (set! (Time 2 (i / (page_len * page_len))) now) (ret tt)

-- block N + 1 opens, all its other words zero, linked to the right of block N (block 0 if N is 0), whose number is its up
unfoldable pub open_block : Cursor → ℕ → Prog Cursor
open_block c now = do
  enter_time c.opened now
  wipe! (c.opened + 1)
  set! (Field (c.opened + 1) opened_word) now
  set! (Field (c.opened + 1) closed_word) OPEN
  set! (Field (c.opened + 1) up_word) c.opened
  when (eqb c.opened 0)
      (ret (grown (c.opened + 1) c))
      (do
        set! (Field c.opened right_word) (c.opened + 1)
        ret (grown c.right c))

-- block x takes the present second as closed and leaves the row of open blocks: its right neighbour's up becomes x's up, P, and P's right
-- becomes x's right; x's left becomes P's last child; P's last child becomes x
unfoldable pub unlink : Cursor → ℕ → ℕ → Prog Cursor
unlink c x now = do
  up ← get! (Field x up_word)
  right ← get! (Field x right_word)
  set! (Field x closed_word) now
  set! (Field right up_word) up
  when (eqb up 0)
      (do
        set! (Field x left_word) c.child
        ret (relinked x right c))
      (do
        child ← get! (Field up child_word)
        set! (Field up right_word) right
        set! (Field x left_word) child
        set! (Field up child_word) x
        ret c)

-- the record of a slot ends, and its standing bit is 0
unfoldable pub end_record : ℕ → ℕ → ℕ → Prog (Unit {0})
end_record n k now = do
  set! (Slot n k to_word) now
  w ← get! (Bits n (k / 32))
  set! (Bits n (k / 32)) (without_bit (k % 32) w)

-- the standing slots of a block, in slot order
unfoldable pub standing : ℕ → Prog (List ℕ)
standing n = do
  low ← get! (Bits n 0)
  high ← get! (Bits n 1)
  ret (slots_of low high)

module _ (s : Settings) where
  -- a record goes to the acceptor's next slot, its standing bit is 1 whatever it was, and the directory follows
  unfoldable pub put_record : Cursor → ℕ → ℕ → Payload → Prog Cursor
  put_record c now tag payload = do
    set! (Slot c.opened c.fill tag_word) tag
    set_payload c.opened c.fill payload
    set! (Slot c.opened c.fill from_word) now
    set! (Slot c.opened c.fill to_word) OPEN
    w ← get! (Bits c.opened (c.fill / 32))
    set! (Bits c.opened (c.fill / 32)) (with_bit (c.fill % 32) w)
    set! (Dir tag) (place_of s c.opened c.fill)
    ret (filled c)

  -- a standing record of block x ends now and is placed again, from now, in an acceptor that has room
  unfoldable pub move_record : ℕ → ℕ → ℕ → Cursor → Prog Cursor
  move_record x now k c = do
    tag ← get! (Slot x k tag_word)
    payload ← get_payload x k
    end_record x k now
    put_record c now tag payload

  -- ---- the old acceptor is judged: with fewer than q standing it closes, and its copies go into the new block. They are at most q − 1, and the
  -- new block has room for b ≥ 2q, so no further block opens.
  unfoldable pub close_full : Cursor → ℕ → ℕ → List ℕ → Prog Cursor
  close_full c x now slots = do
    d ← unlink c x now
    each (move_record x now) slots d

  unfoldable pub judge_full : Cursor → ℕ → ℕ → Prog Cursor
  judge_full c x now = do
    slots ← standing x
    when (ltb (length slots) s.useful) (close_full c x now slots) (ret c)

  -- block N + 1 opens, then block N, if any, is judged
  unfoldable pub roll : Cursor → ℕ → Prog Cursor
  roll c now = do
    d ← open_block c now
    when (eqb c.opened 0) (ret d) (judge_full d c.opened now)

  -- room for a record: a block opens if the acceptor is full, or N is 0
  unfoldable pub make_room : Cursor → ℕ → Prog Cursor
  make_room c now = when (eqb c.opened 0 || eqb c.fill s.block) (roll c now) (ret c)

  unfoldable pub place : Cursor → ℕ → ℕ → ℕ → Prog Cursor
  place c now tag reading = do
    d ← make_room c now
    put_record d now tag (new_payload reading now)

  -- ---- a block other than the acceptor is judged: its copies go where any record goes
  unfoldable pub replace : ℕ → ℕ → ℕ → Cursor → Prog Cursor
  replace x now k c = do
    d ← make_room c now
    move_record x now k d

  unfoldable pub close : Cursor → ℕ → ℕ → List ℕ → Prog Cursor
  close c x now slots = do
    d ← unlink c x now
    each (replace x now) slots d

  unfoldable pub judge : Cursor → ℕ → ℕ → Prog Cursor
  judge c x now = do
    slots ← standing x
    when (ltb (length slots) s.useful) (close c x now slots) (ret c)

  -- a tag's standing record ends, the directory forgets it; if its block is not the acceptor, it is judged
  unfoldable pub clear_tag : Cursor → ℕ → ℕ → Prog Cursor
  clear_tag c now tag = do
    p ← get! (Dir tag)
    end_record (block_of s p) (slot_of s p) now
    set! (Dir tag) 0
    when (eqb (block_of s p) c.opened) (ret c) (judge c (block_of s p) now)

  -- ---- the calls: the cursor moves on, with the clock at the call's second, and is stored
  unfoldable pub finish : ℕ → Cursor → Prog Cursor
  finish now c = do
    store_cursor (at now c)
    ret (at now c)

  unfoldable pub set_program : Cursor → ℕ → ℕ → ℕ → Prog Cursor
  set_program c now tag reading = do
    d ← place c now tag reading
    finish now d

  unfoldable pub clear_program : Cursor → ℕ → ℕ → Prog Cursor
  clear_program c now tag = do
    d ← clear_tag c now tag
    finish now d

  -- a new reading: a clear and a set at the same second
  unfoldable pub update_program : Cursor → ℕ → ℕ → ℕ → Prog Cursor
  update_program c now tag reading = do
    d ← clear_tag c now tag
    e ← place d now tag reading
    finish now e

  unfoldable pub advance_program : Cursor → ℕ → Prog Cursor
  advance_program c now = finish now c
