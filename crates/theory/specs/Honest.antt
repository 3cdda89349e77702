-- WHAT HOLDS OF THE WORDS AFTER A HISTORY (Honest): they hold a head and a memory at rest, what the log tells, the block book and its count.
use Rattle.std.specs.Prelude.{◌≡◌, List, ℕ, ◌+◌, ◌*◌, ◌-◌, ◌≤◌, ◌<◌}
use Rattle.std.proofs.Common.{sym, ap, ◌∙◌, arith}
use Rattle.layout.specs.declared.head.Cursor.{Cursor}
use Rattle.layout.specs.declared.head.Head.{Head}
use Rattle.layout.specs.declared.address.Address.{Address}
use Rattle.layout.specs.declared.address.Address.TheVariants.{Field}
use Rattle.layout.specs.Sizes.{OPEN}
use Rattle.layout.specs.Fields.{opened_word, closed_word}
use Rattle.layout.specs.Address.{Valid, Numbered}
use Rattle.layout.specs.Memory.{Memory}
use Rattle.layout.specs.Head.{head_of, placed}
use Rattle.layout.specs.OnWords.{over}
use Rattle.layout.specs.Interp.{Same}
use Rattle.layout.specs.HeadLaws.{SoundHead}
use Rattle.calls.specs.LookBack.{reader}
use Rattle.calls.specs.Step.{words_read}
use Rattle.calls.specs.Book.{records_in}
use Rattle.calls.specs.History.{Account}
use Rattle.calls.specs.Claims.{Agrees}
use Rattle.theory.specs.Effects.{view}
use Rattle.theory.specs.LogLaws.{Once, tellings}
use Rattle.theory.specs.Rest.{Rest, head_with, Booked, booked_block, booked_useful, booked_length, booked_opened, booked_closed, booked_records}
use Rattle.theory.specs.Counting.{Counted, counted_bound}
use Rattle.theory.specs.SoFar.{Timed}
use Rattle.theory.specs.Stored.{Stored, stored_at}
use Rattle.theory.specs.Right.{LookSound}
use Rattle.theory.specs.LookReady.{look_ready}

pub record Honest (ws : List ℕ) (a : Account) : Type 0 where
  pub cursor : Cursor
  pub memory : Memory
  -- the words hold the head, with the account's settings and clock, and the memory
  pub stored : Stored ws (head_with a.settings cursor) memory
  pub clock : cursor.clock ≡ a.clock
  -- which are at rest and tell the log
  pub rest : Rest a.settings (tellings a.log) cursor memory
  pub once : Once a.log
  pub timed : Timed a.clock a.log
  -- and show the book
  pub booked : Booked a.settings a.book cursor memory
  pub counted : Counted a.sets a.book

module _ {ws : List ℕ} {a : Account} (i : Honest ws a) where
  pub head_is : head_of ws ≡ head_with a.settings i.cursor
  head_is = sym i.stored.read.is

  -- a word that the calls read
  pub word_is : (x : Address) → Valid a.settings x → words_read ws x ≡ i.memory x
  word_is x v = ap (λ (h : Head). (over h.settings).read ws x) head_is ∙ stored_at i.stored x v

  pub words_same : Same (words_read ws) (Valid a.settings) i.memory
  words_same = record { at = word_is }

  pub head_sound : SoundHead (head_with a.settings i.cursor)
  head_sound = i.stored.read.sound

  pub block_numbered : (n : ℕ) → 1 ≤ n → n ≤ i.cursor.opened → Numbered a.settings n
  block_numbered n l h = record { low = l; high = omega (arith, i.rest.limit) }

  -- ---- the store agrees with the book
  placed_is : placed (head_of ws) ≡ records_in a.book.blocks
  placed_is = ap placed head_is ∙ booked_records i.booked

  pub agrees : Agrees ws a.book
  agrees = record {
    block = rw head_is (booked_block i.booked);
    useful = rw head_is (booked_useful i.booked);
    blocks = rw head_is (sym (booked_length i.booked));
    opened = λ n l.
        word_is (Field (n + 1) opened_word) (block_numbered (n + 1) (omega arith) (omega (arith, booked_length i.booked)), omega arith)
        ∙ booked_opened i.booked n (omega (arith, booked_length i.booked));
    closed = λ n l.
        word_is (Field (n + 1) closed_word) (block_numbered (n + 1) (omega arith) (omega (arith, booked_length i.booked)), omega arith)
        ∙ booked_closed i.booked n (omega (arith, booked_length i.booked));
    records = placed_is;
  }

  -- ---- the bound
  pub bound : placed (head_of ws) * (a.book.b - a.book.q + 1) ≤ a.book.b * a.sets
  bound =
      let w = i.rest.full.within in
      rw placed_is (counted_bound (omega (arith, w.some, booked_useful i.booked)) (omega (arith, w.half, booked_block i.booked, booked_useful i.booked)) i.counted)

  -- ---- the words answer look-backs
  pub sound : (t : ℕ) → t < OPEN
      → LookSound (head_of ws).settings.block (head_of ws).settings.tags (head_of ws).cursor.opened t (reader ws) (view i.cursor i.memory)
  sound t o = rw head_is (look_ready i.stored i.rest.full.state t o)
