-- THE CLAIMS (demands 1 to 3): what is said of the definitions, before anything of it is proved. Each sentence is a named field.
-- (UNSOUND is refusal 12, OUT_OF_BLOCKS 13; sum_to n w is w 1 + .. + w n.)
use Rattle.std.specs.Prelude.{◌≡◌, ◌≢◌, ◌↔◌, Bool, true, false, cond, not, ◌&&◌, ◌||◌, ℕ, ◌+◌, ◌*◌, ◌-◌, ◌^◌, ◌≤◌, ◌<◌, eqb, ltb, length, get_or, take}
use mathlib.Core.List.{List, [], ◌∷◌, map, Perm, Nodup, Memᴰ, Pairwise}
use Rattle.std.specs.Int.Count.{ones}
use Rattle.base.specs.Sums.{All, is, sum_to}
use Rattle.layout.specs.declared.settings.Settings.{Settings}
use Rattle.layout.specs.declared.head.Cursor.{Cursor}
use Rattle.layout.specs.declared.head.Head.{Head}
use Rattle.layout.specs.declared.standing.Standing.{Standing}
use Rattle.layout.specs.declared.address.Address.TheVariants.{Dir, Field, Slot}
use Rattle.layout.specs.Sizes.{OPEN, head_len, row_len}
use Rattle.layout.specs.Fields.{opened_word, closed_word, tag_word, from_word, to_word}
use Rattle.layout.specs.Memory.{Memory}
use Rattle.layout.specs.RefusalNumbers.{UNSOUND, OUT_OF_BLOCKS}
use Rattle.layout.specs.Program.{run_on}
use Rattle.layout.specs.Head.{head_of, placed}
use Rattle.layout.specs.Standing.{slots, stands, block_bits}
use Rattle.layout.specs.Parts.{block_part, level_part, page_part, block_word, slot_word}
use Rattle.calls.specs.Calls.{Query, LookBack, Window, buffers_of, Call, Start, Set, Clear, Update, Advance, Ask, Row, View, Answer, Done, Shown, Numbers, Refused, accepted}
use Rattle.calls.specs.Placing.{place_of, set_program, clear_program, update_program, advance_program}
use Rattle.calls.specs.Walk.{Pass, looked, row_of}
use Rattle.calls.specs.Refusals.{Test, opens, acceptor_closes, tag_block, closes, copies, after_clear}
use Rattle.calls.specs.LookBack.{look_at, view_of, row_words, written}
use Rattle.calls.specs.Range.{PlacedRecord, is_read, stood_in, zeroed}
use Rattle.calls.specs.Window.{latest}
use Rattle.calls.specs.Step.{step, tests_of, words_read}
use Rattle.calls.specs.Book.{Book, records_in, openings, closings, open_at}
use Rattle.calls.specs.Log.{state_at, so_far, among, StoodLast}
use Rattle.calls.specs.History.{words_after, trace, Account, opening, enters, account, account_tests}

-- ---- EVERY CALL ON ANY WORDS (demands 1 and 2)
-- n is the first refusal that applies: none before it does
pub data First : List Test → ℕ → Type 0 where
  here : {x : Test} {l : List Test} → x.applies ≡ true → First (x ∷ l) x.number
  later : {x : Test} {l : List Test} {n : ℕ} → x.applies ≡ false → First l n → First (x ∷ l) n

-- the buffers that a call is lent
abbrev pub lent_by : Call → List (List ℕ)
lent_by (Start s) = []
lent_by (Set s tag reading) = []
lent_by (Clear s tag) = []
lent_by (Update s tag reading) = []
lent_by (Advance s) = []
lent_by (Ask q) = buffers_of q

-- ---- ONE CHANGE opens at most one block and closes at most two
-- every call but a start
abbrev pub NotStart : Call → Type 0
NotStart (Start s) = ⊥
NotStart (Set s tag reading) = Unit {0}
NotStart (Clear s tag) = Unit {0}
NotStart (Update s tag reading) = Unit {0}
NotStart (Advance s) = Unit {0}
NotStart (Ask q) = Unit {0}

-- 1 for a block that is closed after the change and was open before it, or was not there
abbrev pub closing : List ℕ → List ℕ → ℕ → ℕ
closing ws ws' n =
    is ((ltb (head_of ws).cursor.opened n || eqb (words_read ws (Field n closed_word)) OPEN) && not (eqb (words_read ws' (Field n closed_word)) OPEN))

-- counted over all blocks that are there after it
pub record Small (ws ws' : List ℕ) : Type 0 where
  pub opens : (head_of ws').cursor.opened ≤ (head_of ws).cursor.opened + 1
  pub keeps : (head_of ws).cursor.opened ≤ (head_of ws').cursor.opened
  pub closes : sum_to (head_of ws').cursor.opened (closing ws ws') ≤ 2

-- ---- WHAT THE TESTS FORETELL, THE CHANGE DOES. Refusals 12 and 13 speak of a block that the change would open and of blocks that it will close. Where no
-- refusal but 13 applies, its program, run on the memory that the words are (there block N + 1 has words, also where N = B), does just that.
abbrev pub AllBut13 : List Test → Type 0
AllBut13 l = All (λ x. x.number ≢ OUT_OF_BLOCKS → x.applies ≡ false) l

-- with so many incoming records, and with the blocks that will close
pub record Foretold (h : Head) (f : Memory) (now incoming : ℕ) (will_close : ℕ → Bool) (left : Cursor × Memory) : Type 0 where
  -- N + 1 blocks exactly if one opens
  pub blocks : left.0.opened ≡ cond (opens h incoming) (h.cursor.opened + 1) h.cursor.opened
  -- the closed word of each block that was there
  pub closed : (n : ℕ) → 1 ≤ n → n ≤ h.cursor.opened
      → left.1 (Field n closed_word) ≡ cond (will_close n) now (f (Field n closed_word))
  -- and of the new one
  pub new : opens h incoming ≡ true → left.1 (Field (h.cursor.opened + 1) closed_word) ≡ OPEN

module _ (h : Head) (f : Memory) where
  -- by a set the old acceptor
  abbrev pub set_closes : ℕ → Bool
  set_closes n = eqb n h.cursor.opened && acceptor_closes h (block_bits f h.cursor.opened) 1

  abbrev pub incoming_clear : ℕ → ℕ → ℕ
  incoming_clear more tag = copies h f (tag_block h f tag) + more

  -- by a clear (more = 0) or new reading (more = 1) the tag's block and the old acceptor
  abbrev pub clear_closes : ℕ → ℕ → ℕ → Bool
  clear_closes more tag n =
      (eqb n (tag_block h f tag) && closes h f (tag_block h f tag)) || (eqb n h.cursor.opened && acceptor_closes h (after_clear h f tag) (incoming_clear more tag))

  abbrev pub ForetoldOf : Call → Type 0
  ForetoldOf (Start s) = Unit {0}
  ForetoldOf (Set s tag reading) = Foretold h f s 1 set_closes (run_on (set_program h.settings h.cursor s tag reading) f)
  ForetoldOf (Clear s tag) = Foretold h f s (incoming_clear 0 tag) (clear_closes 0 tag) (run_on (clear_program h.settings h.cursor s tag) f)
  ForetoldOf (Update s tag reading) =
      Foretold h f s (incoming_clear 1 tag) (clear_closes 1 tag) (run_on (update_program h.settings h.cursor s tag reading) f)
  ForetoldOf (Advance s) = Foretold h f s 0 (λ n. false) (run_on (advance_program h.settings h.cursor s) f)
  ForetoldOf (Ask q) = Unit {0}

-- ---- what may be answered to which call, a refusal aside: a head, a view, or numbers
abbrev pub OnlyHead : Answer → Type 0
OnlyHead (Done h) = Unit {0}
OnlyHead (Shown v) = ⊥
OnlyHead (Numbers l) = ⊥
OnlyHead (Refused n) = Unit {0}

abbrev pub OnlyView : Answer → Type 0
OnlyView (Done h) = ⊥
OnlyView (Shown v) = Unit {0}
OnlyView (Numbers l) = ⊥
OnlyView (Refused n) = Unit {0}

abbrev pub OnlyNumbers : Answer → Type 0
OnlyNumbers (Done h) = ⊥
OnlyNumbers (Shown v) = ⊥
OnlyNumbers (Numbers l) = Unit {0}
OnlyNumbers (Refused n) = Unit {0}

abbrev pub QueryKind : Query → Answer → Type 0
QueryKind (LookBack t rows list) = OnlyView
QueryKind (Window first last rows) = OnlyNumbers

abbrev pub KindOf : Call → Answer → Type 0
KindOf (Start s) a = OnlyHead a
KindOf (Set s tag reading) a = OnlyHead a
KindOf (Clear s tag) a = OnlyHead a
KindOf (Update s tag reading) a = OnlyHead a
KindOf (Advance s) a = OnlyHead a
KindOf (Ask q) a = QueryKind q a

pub record EveryCall (ws : List ℕ) (c : Call) : Type 0 where
  -- a call is accepted if and only if no listed refusal applies
  pub accepted_iff : (accepted (step ws c).answer ≡ true) ↔ All (λ x. x.applies ≡ false) (tests_of ws c)
  -- each refusal comes under its own condition only, the first in the list where several apply
  pub refused_first : (n : ℕ) → (step ws c).answer ≡ Refused n → First (tests_of ws c) n
  -- all words are then as before
  pub store_kept : (n : ℕ) → (step ws c).answer ≡ Refused n → (step ws c).store ≡ ws
  pub buffers_kept : (n : ℕ) → (step ws c).answer ≡ Refused n → n ≢ UNSOUND → (step ws c).lent ≡ lent_by c
  -- except that refusal 12 of a query fills its buffers with zeros: both of a look-back, the row buffer of a window
  pub buffers_zero : (step ws c).answer ≡ Refused UNSOUND → (step ws c).lent ≡ zeroed (lent_by c)
  -- a look-back is answered with a view, a window with numbers, any other call with a head: an accepted change hands back the next head
  pub of_its_kind : KindOf c (step ws c).answer
  -- the head that is handed back is the head of the words left
  pub head_stored : (h : Head) → (step ws c).answer ≡ Done h → head_of (step ws c).store ≡ h
  -- what the tests foretell
  pub foretold : AllBut13 (tests_of ws c) → ForetoldOf (head_of ws) (words_read ws) c
  -- one change opens at most one block and closes at most two
  pub small : NotStart c → Small ws (step ws c).store
  -- lent words keep their number
  pub same_lengths : (length (step ws c).store ≡ length ws) × (map length (step ws c).lent ≡ map length (lent_by c))
  -- a query only reads the store
  pub query_reads : (q : Query) → c ≡ Ask q → (step ws c).store ≡ ws

-- ---- ANY BLOCK'S WORDS
pub record AnyBlock : Type 0 where
  -- "A record [from, to) stands at t if from ≤ t < to, so one set and cleared within a second never shows."
  pub brief : (t k : ℕ) (block : List ℕ) → slot_word block k from_word ≡ slot_word block k to_word → row_of t block k ≡ []
  -- "how many stand is the number of ones", of both words
  pub number_of_ones : (b : Standing) → b.low < 2 ^ 32 → b.high < 2 ^ 32 → length (slots b) ≡ ones b.low + ones b.high

-- ---- ANY RECORDS THAT A WINDOW READS
-- a record stands at some second of a range
pub record AtSome (first last : ℕ) (r : PlacedRecord) : Type 0 where
  pub second : ℕ
  pub inside : (first ≤ second) × (second ≤ last)
  pub stands : (r.from ≤ second) × (second < r.to)

-- x is one of l, and none has a greater from or, with its from, a greater place
pub record Greatest (l : List PlacedRecord) (x : PlacedRecord) : Type 0 where
  pub member : Memᴰ x l
  pub from : (y : PlacedRecord) → Memᴰ y l → y.from ≤ x.from
  pub place : (y : PlacedRecord) → Memᴰ y l → y.from ≡ x.from → y.place ≤ x.place

pub record AnyRecords : Type 0 where
  -- a record "stood in the window" exactly if it stood at some second of it
  pub stood : (first last : ℕ) (r : PlacedRecord) → first ≤ last → (stood_in first last r ≡ true) ↔ AtSome first last r
  -- "Latest is the greatest from, then the greatest place": records have a latest unless there are none
  pub greatest : (l : List PlacedRecord) (x : PlacedRecord) → latest l ≡ x ∷ [] → Greatest l x
  pub none : (l : List PlacedRecord) → latest l ≡ [] → l ≡ []

-- ---- A STORE ALIKE, on any words (demand 3, last sentence)
-- in length, head, index pages passed and listed blocks
pub record Alike (ws ws' : List ℕ) (v : View) : Type 0 where
  pub long : length ws' ≡ length ws
  pub head : take head_len ws' ≡ take head_len ws
  pub pages : (l : ℕ) → l < 3 → get_or v.pages l OPEN ≢ OPEN
      → page_part (level_part ws' l) (get_or v.pages l OPEN) ≡ page_part (level_part ws l) (get_or v.pages l OPEN)
  pub blocks : All (λ n. block_part (head_of ws).settings ws' n ≡ block_part (head_of ws).settings ws n) v.list

-- gets the same answer, both buffers' final words included
pub record StoreAlike (ws : List ℕ) (t : ℕ) (rows list : List ℕ) : Type 0 where
  pub same_answer : (ws' : List ℕ) (v : View) → (step ws (Ask (LookBack t rows list))).answer ≡ Shown v → Alike ws ws' v
      → step ws' (Ask (LookBack t rows list)) ≡ record {
        answer = Shown v;
        store = ws';
        lent = (step ws (Ask (LookBack t rows list))).lent;
      }

-- alike in length, head, opened and closed of blocks 1 to N, and the blocks of these that a window reads
pub record SameBlocks (ws ws' : List ℕ) (first last : ℕ) : Type 0 where
  pub long : length ws' ≡ length ws
  pub head : take head_len ws' ≡ take head_len ws
  pub seconds : (n : ℕ) → 1 ≤ n → n ≤ (head_of ws).cursor.opened
      → let s = (head_of ws).settings in
      (block_word (block_part s ws' n) opened_word ≡ block_word (block_part s ws n) opened_word)
      × (block_word (block_part s ws' n) closed_word ≡ block_word (block_part s ws n) closed_word)
  pub blocks : (n : ℕ) → 1 ≤ n → n ≤ (head_of ws).cursor.opened → is_read first last (block_part (head_of ws).settings ws n) ≡ true
      → block_part (head_of ws).settings ws' n ≡ block_part (head_of ws).settings ws n

-- gets the same answer, a refusal too, and leaves the same words in the buffer
pub record WindowAlike (ws : List ℕ) (first last : ℕ) (rows : List ℕ) : Type 0 where
  pub same_answer : (ws' : List ℕ) → SameBlocks ws ws' first last
      → step ws' (Ask (Window first last rows)) ≡ record {
        answer = (step ws (Ask (Window first last rows))).answer;
        store = ws';
        lent = (step ws (Ask (Window first last rows))).lent;
      }

-- ---- THE STORE AGREES WITH THE BOOK
pub record Agrees (ws : List ℕ) (k : Book) : Type 0 where
  pub block : (head_of ws).settings.block ≡ k.b
  pub useful : (head_of ws).settings.useful ≡ k.q
  -- N is the number of its blocks
  pub blocks : (head_of ws).cursor.opened ≡ length k.blocks
  -- opened and closed of each are its seconds, OPEN for none
  pub opened : (i : ℕ) → i < length k.blocks → words_read ws (Field (i + 1) opened_word) ≡ get_or (openings k.blocks) i 0
  pub closed : (i : ℕ) → i < length k.blocks → words_read ws (Field (i + 1) closed_word) ≡ get_or (closings k.blocks) i 0
  -- records placed are as many as its records
  pub records : placed (head_of ws) ≡ records_in k.blocks

-- ---- AN ANSWERED LOOK-BACK
-- the pages passed, of the three levels
abbrev pub passed_pages : List ℕ → ℕ
passed_pages [] = 0
passed_pages (p ∷ l) = cond (eqb p OPEN) (passed_pages l) (passed_pages l + 1)

pub record Answered (ws : List ℕ) (a : Account) (t : ℕ) (rows list : List ℕ) (v : View) : Type 0 where
  -- exactly the rows, reading list, pages and three counts of the walk, in its order
  pub walk : (ps : List Pass) × (look_at ws t ≡ looked v.rows v.list ps) × (v ≡ view_of v.rows v.list ps)
  -- its rows are, order aside, those of the log at t
  pub log : Perm v.rows (state_at a.log t)
  -- each condition once
  pub once : Nodup (map (λ r. r.tag) v.rows)
  -- the reading list names no block twice
  pub listed_once : Nodup v.list
  -- and at most twice as many blocks as the book has open at t
  pub twofold : length v.list ≤ 2 * open_at t a.book.blocks
  -- those open, times q, are no more than the rows plus q
  pub useful : open_at t a.book.blocks * a.book.q ≤ length v.rows + a.book.q
  -- the three numbers count rows, pages and blocks
  pub rows_counted : v.counts.rows ≡ length v.rows
  pub pages_counted : v.counts.pages ≡ passed_pages v.pages
  pub blocks_counted : v.counts.blocks ≡ length v.list
  -- the buffers hold rows and list; words after them keep their contents
  pub given : (step ws (Ask (LookBack t rows list))).lent ≡ written (row_words v.rows) rows ∷ written v.list list ∷ []

-- a look-back at t with these buffers is answered exactly if t is below OPEN, not after the clock, and the buffers are long enough
pub record Asked (a : Account) (t : ℕ) (rows list : List ℕ) : Type 0 where
  pub second : t < OPEN
  pub past : t ≤ a.clock
  pub row_room : row_len * a.settings.tags ≤ length rows
  pub list_room : a.settings.blocks ≤ length list

-- ---- AN ANSWERED WINDOW (document 02, request 2), with the numbers l
pub record Crossed (ws : List ℕ) (a : Account) (first last : ℕ) (buffer l : List ℕ) : Type 0 where
  pub rows : List Row
  -- "the answer is their number"
  pub counted : l ≡ length rows ∷ []
  -- the buffer holds them; words after them keep their contents
  pub given : (step ws (Ask (Window first last buffer))).lent ≡ written (row_words rows) buffer ∷ []
  -- "each tag .. once, .. in ascending tag order"
  pub ascending : Pairwise (λ x y. x < y) (map (λ r. r.tag) rows)
  -- "each tag that stood at some second of the window .. with the reading of its latest standing there": a row exactly where the log has it
  pub log : (r : Row) → Memᴰ r rows ↔ StoodLast a.log first last r
  -- so every tag that stood at some second of it has a row
  pub stood : (t tag : ℕ) → first ≤ t → t ≤ last → among tag (state_at a.log t) ≡ true → among tag rows ≡ true

-- a window is answered exactly if t1 ≤ t2 < OPEN, t2 is not after the clock and the buffer is long enough
pub record WindowAsked (a : Account) (first last : ℕ) (rows : List ℕ) : Type 0 where
  pub order : first ≤ last
  pub second : last < OPEN
  pub past : last ≤ a.clock
  pub row_room : row_len * a.settings.tags ≤ length rows

-- ---- WHAT THE WORDS OF A STORE MEAN (document 01, "The lent store"), after a history
-- the record of a tag that stands lies in slot k of block n
pub record StandsAt (ws : List ℕ) (tag n k : ℕ) : Type 0 where
  pub block : (1 ≤ n) × (n ≤ (head_of ws).cursor.opened)
  pub slot : k < (head_of ws).settings.block
  pub tagged : words_read ws (Slot n k tag_word) ≡ tag
  pub unended : words_read ws (Slot n k to_word) ≡ OPEN

pub record Means (ws : List ℕ) (a : Account) : Type 0 where
  -- "Standing bit k is 1 while slot k is unended"
  pub bits : (n k : ℕ) → 1 ≤ n → n ≤ (head_of ws).cursor.opened → k < (head_of ws).settings.block
      → (stands (block_bits (words_read ws) n) k ≡ true) ↔ (words_read ws (Slot n k to_word) ≡ OPEN)
  -- "Directory, D words: 0, or the place of the tag's standing record"
  pub directory_none : (tag : ℕ) → tag < a.settings.tags → (words_read ws (Dir tag) ≡ 0) ↔ (among tag (so_far a.log) ≡ false)
  pub directory_place : (tag : ℕ) → tag < a.settings.tags → words_read ws (Dir tag) ≢ 0
      → (n : ℕ) × (k : ℕ) × StandsAt ws tag n k × (words_read ws (Dir tag) ≡ place_of a.settings n k)

-- ---- WHAT HOLDS AFTER A HISTORY, of the words left and the account kept
pub record Holds (ws : List ℕ) (a : Account) : Type 0 where
  -- the head has the settings of the last accepted start, and the clock
  pub settings : (head_of ws).settings ≡ a.settings
  pub clock : (head_of ws).cursor.clock ≡ a.clock
  -- the store's blocks, their opening and closing, and the count of records placed are the book's
  pub agrees : Agrees ws a.book
  -- records placed × (b − q + 1) is at most b × the accepted sets and new readings
  pub bound : placed (head_of ws) * (a.book.b - a.book.q + 1) ≤ a.book.b * a.sets
  -- refusal 12 never comes
  pub never_unsound : (c : Call) → (step ws c).answer ≢ Refused UNSOUND
  -- a call is accepted if and only if none of the refusals applies that the account foretells, and else the first that does is given
  pub accepted_iff : (c : Call) → (accepted (step ws c).answer ≡ true) ↔ All (λ x. x.applies ≡ false) (account_tests (length ws) a c)
  pub refused_first : (c : Call) (n : ℕ) → (step ws c).answer ≡ Refused n → First (account_tests (length ws) a c) n
  -- a look-back is answered whenever it may be asked
  pub answered_iff : (t : ℕ) (rows list : List ℕ) → (accepted (step ws (Ask (LookBack t rows list))).answer ≡ true) ↔ Asked a t rows list
  pub answered : (t : ℕ) (rows list : List ℕ) (v : View) → (step ws (Ask (LookBack t rows list))).answer ≡ Shown v → Answered ws a t rows list v
  -- and a window, for every pair of seconds
  pub window_iff : (first last : ℕ) (rows : List ℕ) → (accepted (step ws (Ask (Window first last rows))).answer ≡ true) ↔ WindowAsked a first last rows
  pub window : (first last : ℕ) (rows l : List ℕ) → (step ws (Ask (Window first last rows))).answer ≡ Numbers l → Crossed ws a first last rows l
  -- "A look-back at the clock tells the state so far."
  pub so-far : state_at a.log a.clock ≡ so_far a.log
  -- "one set and cleared within a second never shows": with it every second tells what it told before
  pub brief : (s tag reading t : ℕ) → accepted (step ws (Set s tag reading)).answer ≡ true
      → state_at (enters (enters a (Set s tag reading)) (Clear s tag)).log t ≡ state_at a.log t
  -- bits and directory
  pub means : Means ws a
  -- and whatever the other words are, a store alike gets the same answer
  pub alike : (t : ℕ) (rows list : List ℕ) → StoreAlike ws t rows list
  pub window_alike : (first last : ℕ) (rows : List ℕ) → WindowAlike ws first last rows

-- ---- THE WHOLE LIST (demand 3): a store of any length as an accepted start left it, then any calls, refused ones included
pub record WholeList (ws : List ℕ) (s : Settings) (calls : List Call) : Type 0 where
  pub after : accepted (step ws (Start s)).answer ≡ true
      → let fresh = (step ws (Start s)).store in
      Holds (words_after fresh calls) (account (opening s) (trace fresh calls))

-- ---- DEMAND 2, which follows from these: acceptance on any words, and after any history no refusal 12 and the log's conditions, each once
pub record Demand2 (ws : List ℕ) (s : Settings) (calls : List Call) : Type 0 where
  pub accepted_iff : (words : List ℕ) (c : Call) → (accepted (step words c).answer ≡ true) ↔ All (λ x. x.applies ≡ false) (tests_of words c)
  pub never_unsound : accepted (step ws (Start s)).answer ≡ true
      → (c : Call) → (step (words_after (step ws (Start s)).store calls) c).answer ≢ Refused UNSOUND
  pub log : accepted (step ws (Start s)).answer ≡ true → (t : ℕ) (rows list : List ℕ) (v : View)
      → let fresh = (step ws (Start s)).store in
      (step (words_after fresh calls) (Ask (LookBack t rows list))).answer ≡ Shown v
      → Perm v.rows (state_at (account (opening s) (trace fresh calls)).log t) × Nodup (map (λ r. r.tag) v.rows)
