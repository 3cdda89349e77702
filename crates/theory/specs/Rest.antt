-- The register at rest (Rest): the invariant between two calls. A fresh register has it, and each accepted call that changes the register keeps it and
-- tells the log. That the cursor stays within its bounds is `safety`'s (Next). The store then shows a book (Booked): a fresh one the empty book, and each
-- call carries it on to the book that document 01's rules make of it.
use Rattle.std.specs.Prelude.{◌≡◌, refl, ◌≢◌, ◌&&◌, List, ℕ, ◌≤◌, ◌<◌, ◌+◌, ltb, leb, length, get_or}
use Rattle.std.proofs.Math.Path.{sym, ap}
use Rattle.std.proofs.Common.{◌∙◌, arith, le-leb}
use Rattle.base.specs.Branch.{eqb_same}
use Rattle.base.specs.Sums.{is, sum_to}
use Rattle.layout.specs.declared.settings.Settings.{Settings}
use Rattle.layout.specs.declared.head.Cursor.{Cursor}
use Rattle.layout.specs.declared.head.Head.{Head}
use Rattle.layout.specs.declared.address.Address.TheVariants.{Dir, Field}
use Rattle.layout.specs.Sizes.{OPEN}
use Rattle.layout.specs.Settings.{Within}
use Rattle.layout.specs.Memory.{Memory}
use Rattle.layout.specs.Program.{run_on}
use Rattle.layout.specs.Cursor.{store_cursor}
use Rattle.layout.specs.Head.{fresh_head, placed}
use Rattle.layout.specs.Fields.{opened_word, closed_word}
use Rattle.layout.specs.Payload.{new_payload}
use Rattle.calls.specs.Placing.{place, clear_tag, finish, set_program, clear_program, update_program, advance_program}
use Rattle.calls.specs.Refusals.{tag_block, copies}
use Rattle.calls.specs.Book.{Block, Book, empty_book, book_set, book_clear, book_update, records_in, openings, closings, open_at}
use Rattle.safety.specs.CallSafe.{Next}
use Rattle.theory.specs.Timeline.{Timeline, none, some, logged}
use Rattle.theory.specs.State.{shape, NoneDue, not_found, state_later}
use Rattle.theory.specs.Rolling.{Full}
use Rattle.theory.specs.Changing.{Made, place_law, clear_law}
use Rattle.theory.specs.Fresh.{fresh_memory, fresh_full}
use Rattle.theory.specs.Effects.{view, closed-word}
use Rattle.theory.specs.BookLaws.{tabulate_none, opening_table, closing_table, open_table}
use Rattle.theory.specs.BookOf.{block_at, book_of, book_length, book_records}

-- the head of a store with these settings
abbrev pub head_with : Settings → Cursor → Head
head_with s c = record { settings = s; cursor = c }

-- the copies that a clear of this tag makes
abbrev pub copies_of : Settings → Cursor → Memory → ℕ → ℕ
copies_of s c f tag = copies (head_with s c) f (tag_block (head_with s c) f tag)

pub record Rest (s : Settings) (log : Timeline) (c : Cursor) (f : Memory) : Type 0 where
  -- invariant and useful blocks at the clock, no block being moved or to be judged; settings within their limits; fill at most b
  pub full : Full s NoneDue 0 0 c.clock log (shape c f)
  -- N is at most B; the acceptor has a record, and where there is no block there is none
  pub limit : c.opened ≤ s.blocks
  pub begun : 1 ≤ c.opened → 1 ≤ c.fill
  pub empty : c.opened ≡ 0 → c.fill ≡ 0

pub rest_fresh : (s : Settings) → Within s → Rest s (λ t tag. none) (fresh_head s).cursor (fresh_memory s)
rest_fresh s z = record { full = fresh_full s z; limit = omega arith; begun = λ a. absurd (omega arith); empty = λ e. refl }

-- the store of a cursor and a memory shows the book k
pub record Booked (s : Settings) (k : Book) (c : Cursor) (f : Memory) : Type 0 where
  pub is_book : book_of s (shape c f) ≡ k

pub booked_fresh : (s : Settings) (f : Memory) → Booked s (empty_book s) (fresh_head s).cursor f
booked_fresh s f = record {
  is_book = ap (λ (l : List Block). record { b = s.block; q = s.useful; blocks = l })
      (tabulate_none (λ i. block_at s.block (shape (fresh_head s).cursor f) (i + 1)));
}

-- what a call leaves: a register at rest, if the cursor is within its bounds, and the book
pub record After (s : Settings) (now : ℕ) (log : Timeline) (k : Book) (c : Cursor) (f : Memory) : Type 0 where
  pub rest : Next s now c → Rest s log c f
  pub booked : Booked s k c f

module _ {s : Settings} {log : Timeline} {k : Book} {c : Cursor} {f : Memory} (i : Rest s log c f) (b : Booked s k c f) (now : ℕ) where
  -- the end of a change: the cursor is stored, with the clock at now, which no book shows
  stored : {log' : Timeline} {k' : Book} (d : Cursor) (g : Memory) → Full s NoneDue 0 0 now log' (shape d g) → book_of s (shape d g) ≡ k'
      → let z = run_on (finish s now d) g in After s now log' k' z.0 z.1
  unfolding finish store_cursor
  stored d g r e = record {
    rest = λ n. record {
      full = record { state = r.state; useful = r.useful; within = r.within; fits = r.fits };
      limit = n.opened;
      begun = n.some;
      empty = n.none;
    };
    booked = record { is_book = e };
  }

  -- blocks as a book with these settings
  abbrev bound : List Block → Book
  bound l = record { b = s.block; q = s.useful; blocks = l }

  module _ (later : c.clock ≤ now) (ends : now < OPEN) where
    -- ---- a clock move
    pub after_advance : let z = run_on (advance_program s c now) f in After s now log k z.0 z.1
    unfolding advance_program
    after_advance =
        let r = i.full in
        stored c f (record { state = state_later r.state later ends; useful = r.useful; within = r.within; fits = r.fits }) b.is_book

    -- ---- a set
    pub after_set : (tag reading : ℕ) → tag < s.tags → f (Dir tag) ≡ 0
        → let z = run_on (set_program s c now tag reading) f in After s now (logged now tag (some (new_payload reading now)) log) (book_set now tag k) z.0 z.1
    unfolding set_program
    after_set tag reading known d =
        let z = run_on (place s c now tag reading) f in
        let m = place_law c f now tag reading i.full later ends known d in
        stored z.0 z.1 m.full (ap bound m.shows ∙ ap (book_set now tag) b.is_book)

    module _ (tag : ℕ) (d : f (Dir tag) ≢ 0) where
      cleared : let z = run_on (clear_tag s c now tag) f in
          Made s NoneDue now (logged now tag none log) (book_clear now tag (book_of s (shape c f))).blocks (shape z.0 z.1)
      cleared = clear_law c f now tag i.full later ends d

      -- ---- a clear
      pub after-clear : let z = run_on (clear_program s c now tag) f in After s now (logged now tag none log) (book_clear now tag k) z.0 z.1
      unfolding clear_program
      after-clear =
          let z = run_on (clear_tag s c now tag) f in
          stored z.0 z.1 cleared.full (ap bound cleared.shows ∙ ap (book_clear now tag) b.is_book)

      -- ---- a new reading: the tag is free once it is cleared
      pub after_update : (reading : ℕ) → tag < s.tags → let z = run_on (update_program s c now tag reading) f in
          After s now (logged now tag (some (new_payload reading now)) (logged now tag none log)) (book_update now tag k) z.0 z.1
      unfolding update_program
      after_update reading known =
          let y = run_on (clear_tag s c now tag) f in
          let z = run_on (place s y.0 now tag reading) y.1 in
          let freed = not_found cleared.full.state tag (simp (le-leb now now (omega arith), eqb_same)) in
          let m = place_law y.0 y.1 now tag reading cleared.full (omega arith) ends known freed in
          stored z.0 z.1 m.full (ap bound m.shows ∙ ap (book_set now tag) (ap bound cleared.shows ∙ ap (book_clear now tag) b.is_book))

-- ---- what the store and its book agree in
module _ {s : Settings} {k : Book} {c : Cursor} {f : Memory} (b : Booked s k c f) where
  pub booked_block : s.block ≡ k.b
  booked_block = ap (λ (y : Book). y.b) b.is_book

  pub booked_useful : s.useful ≡ k.q
  booked_useful = ap (λ (y : Book). y.q) b.is_book

  pub booked_length : length k.blocks ≡ c.opened
  booked_length = ap (λ (y : Book). length y.blocks) (sym b.is_book) ∙ book_length s.block (shape c f)

  pub booked_opened : (n : ℕ) → n < c.opened → f (Field (n + 1) opened_word) ≡ get_or (openings k.blocks) n 0
  booked_opened n h = sym (opening_table c.opened n (λ j. block_at s.block (shape c f) (j + 1)) h) ∙ ap (λ (y : Book). get_or (openings y.blocks) n 0) b.is_book

  pub booked_closed : (n : ℕ) → n < c.opened → f (Field (n + 1) closed_word) ≡ get_or (closings k.blocks) n 0
  booked_closed n h =
      sym (closing_table c.opened n (λ j. block_at s.block (shape c f) (j + 1)) h ∙ closed-word c f (n + 1) (omega arith))
      ∙ ap (λ (y : Book). get_or (closings y.blocks) n 0) b.is_book

  pub booked_records : placed (head_with s c) ≡ records_in k.blocks
  unfolding placed
  booked_records = sym (book_records s.block (shape c f)) ∙ ap (λ (y : Book). records_in y.blocks) b.is_book

  pub booked_open_at : (t : ℕ) → open_at t k.blocks ≡ sum_to c.opened (λ n. is (leb ((view c f).opened n) t && ltb t ((view c f).closed n)))
  booked_open_at t = ap (λ (y : Book). open_at t y.blocks) (sym b.is_book)
      ∙ open_table c.opened t (λ j. block_at s.block (shape c f) (j + 1)) (view c f).opened (view c f).closed (λ j h. refl) (λ j h. refl)
