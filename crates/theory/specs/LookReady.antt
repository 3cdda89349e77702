-- An honest store is ready for a look-back: its words hand out the view, times and records of its memory (reader-..), and the invariant gives all that a
-- right look-back asks (look_ready).
use Rattle.std.specs.Prelude.{◌≡◌, List, eqb, get_or}
use Rattle.std.proofs.Math.Path.{sym, ap}
use Rattle.std.proofs.Common.{◌∙◌, ne_eqb}
use Prim.Native.Nat.{ℕ, zero, suc, ◌+◌, ◌*◌, ◌/◌, ◌≤◌, ◌<◌}
use native.Mathlib.Omega.{arith}
use Rattle.base.specs.Sums.{is, total}
use Rattle.base.specs.Branch.{is?}
use Rattle.layout.specs.declared.head.Head.{Head}
use Rattle.layout.specs.declared.address.Address.{Address}
use Rattle.layout.specs.declared.address.Address.TheVariants.{Time, Field, Slot}
use Rattle.layout.specs.Sizes.{OPEN, level_len, page_len, bits_start, record_len}
use Rattle.layout.specs.Fields.{closed_word, up_word, left_word, child_word, tag_word, from_word, to_word}
use Rattle.layout.specs.Address.{Valid, Numbered}
use Rattle.layout.specs.Memory.{Memory}
use Rattle.layout.specs.Head.{head_of}
use Rattle.layout.specs.Words.{read_word}
use Rattle.layout.specs.Parts.{block_word, slot_word}
use Rattle.layout.specs.PartsLaws.{block-word, slot-word, page_word, payload_same}
use Rattle.layout.specs.OverLaws.{over_read}
use Rattle.calls.specs.Calls.{Row}
use Rattle.calls.specs.Walk.{entries, Reader}
use Rattle.calls.specs.LookBack.{reader}
use Rattle.theory.specs.Effects.{view, closed-word, records_of}
use Rattle.theory.specs.State.{shape, State, NoneDue}
use Rattle.theory.specs.Timeline.{Timeline}
use Rattle.theory.specs.RecordRows.{SlotHolds, rows_at, standing_rows, rows_of_records, words_sum, rows_once, rows_known, rows_unopened, rows_ended}
use Rattle.theory.specs.FoundWalk.{rows_in}
use Rattle.theory.specs.Listed.{Agree, Rooted, rooted_open, rooted_closed}
use Rattle.theory.specs.Right.{LookSound, all_weigh, all_weigh_is}
use Rattle.theory.specs.Stored.{Stored, stored_at}
use Rattle.theory.specs.Row.{Linked, BlockView}
use Rattle.theory.specs.Times.{Indexed}
use Rattle.theory.specs.SearchLaws.{entry, levels_hold}

-- ---- what links and index say: every block is rooted, stays open until the next opens, and the pages hold the entries
module _ {v : BlockView} {N clock : ℕ} (i : Linked v N clock) where
  pub linked_rooted : {R : Reader} → Agree R v N → (n : ℕ) → 0 < n → n ≤ N → Rooted R v n
  linked_rooted a n p q = is? (v.closed n) OPEN
      (λ o. let x = i.row n p q o in rooted_open a n p q o x.up x.stands x.tree)
      (λ d. let x = i.shut n q d in rooted_closed a n p q d x.up x.under x.tree)

  pub linked_lasts : {t : ℕ} → t < OPEN → (n : ℕ) → 0 < n → n ≤ N → (n < N → t < v.opened (n + 1)) → t < v.closed n
  linked_lasts h n p q f = is? (v.closed n) OPEN
      (λ o. omega arith)
      (λ d. let x = i.shut n q d in omega (arith, f x.inner, x.after))

pub indexed_holds : {N : ℕ} {seconds : ℕ → ℕ} {times : ℕ → ℕ → ℕ} (R : Reader) → Indexed seconds times N
    → ((l e j : ℕ) → l < 3 → j < page_len → page_len * e + j < entries N l → get_or (R.page l e) j 0 ≡ times l (page_len * e + j))
    → (l e j : ℕ) → l < 3 → j < page_len → page_len * e + j < entries N l → get_or (R.page l e) j 0 ≡ entry seconds l (page_len * e + j)
indexed_holds {N} {seconds} {times} R x h l e j p q r =
    h l e j p q r ∙ levels_hold N seconds times x.each x.pages x.tops l (page_len * e + j) p r

-- ---- what the words hand out
module _ {ws : List ℕ} {h : Head} {f : Memory} (i : Stored ws h f) where
  -- a word of the layout is the memory's
  word_at : (a : Address) → Valid h.settings a → read_word h.settings ws a ≡ f a
  word_at a v = sym (over_read h.settings ws a) ∙ stored_at i a v

  -- the settings that the reader goes by
  same_settings : (head_of ws).settings ≡ h.settings
  same_settings = ap (λ (x : Head). x.settings) (sym i.read.is)

  pub reader_block : (n j : ℕ) → Numbered h.settings n → j < bits_start → block_word ((reader ws).block n) j ≡ f (Field n j)
  unfolding reader
  reader_block n j v l = rw same_settings (block-word h.settings ws n j l ∙ word_at (Field n j) (v, l))

  reader_slot : (n k j : ℕ) → Numbered h.settings n → k < h.settings.block → j < record_len → slot_word ((reader ws).block n) k j ≡ f (Slot n k j)
  unfolding reader
  reader_slot n k j v b l = rw same_settings (slot-word h.settings ws n k j b l ∙ word_at (Slot n k j) (v, b, l))

  pub slot_holds : (n k : ℕ) → Numbered h.settings n → k < h.settings.block → SlotHolds ((reader ws).block n) k (records_of f n k)
  slot_holds n k v b = record {
    tag = reader_slot n k tag_word v b (omega arith);
    payload = payload_same (λ j l. reader_slot n k j v b l);
    from = reader_slot n k from_word v b (omega arith);
    to = reader_slot n k to_word v b (omega arith);
  }

  -- entries are words of their level
  level_entries : (N l : ℕ) → N ≤ 4096 → l < 3 → entries N l ≤ level_len l
  unfolding entries
  level_entries N zero a b = a
  level_entries N (suc zero) a b = omega arith
  level_entries N (suc (suc zero)) a b = omega arith
  level_entries N (suc (suc (suc l))) a b = absurd (omega arith)

  whole_pages : (l x : ℕ) → l < 3 → x < level_len l → page_len * (x / page_len) + page_len ≤ level_len l
  whole_pages zero x a b = omega arith
  whole_pages (suc zero) x a b = omega arith
  whole_pages (suc (suc l)) x a b = omega arith

  reader_time : (N l e j : ℕ) → N ≤ 4096 → l < 3 → j < page_len → page_len * e + j < entries N l → get_or ((reader ws).page l e) j 0 ≡ f (Time l (page_len * e + j))
  unfolding reader
  reader_time N l e j n a b c =
      let d : page_len * e + j < level_len l = omega (arith, level_entries N l n a) in
      let q : (page_len * e + j) / page_len ≡ e = omega arith in
      let r : page_len * e + page_len ≤ level_len l = rw q at (whole_pages l (page_len * e + j) a d) in
      page_word h.settings ws l e j r b ∙ word_at (Time l (page_len * e + j)) (a, d)

  -- ---- ready
  module _ {clock : ℕ} {log : Timeline} (st : State h.settings NoneDue clock log (shape h.cursor f)) where
    abbrev N : ℕ
    N = h.cursor.opened

    abbrev v : BlockView
    v = view h.cursor f

    numbered : (n : ℕ) → 0 < n → n ≤ N → Numbered h.settings n
    numbered n a b = record { low = a; high = omega (arith, i.read.sound.opened) }

    few : N ≤ 4096
    few = omega (arith, i.read.sound.opened, i.read.sound.within.blocks)

    agree : Agree (reader ws) v N
    unfolding reader
    agree = record {
      root = ap (λ (x : Head). x.cursor.child) (sym i.read.is);
      closed = λ n a b. reader_block n closed_word (numbered n a b) (omega arith) ∙ sym (closed-word h.cursor f n a);
      up = λ n a b. reader_block n up_word (numbered n a b) (omega arith);
      left = λ n a b. reader_block n left_word (numbered n a b) (omega arith);
      child = λ n a b. reader_block n child_word (numbered n a b) (omega arith) ∙ rw (ne_eqb n 0 (omega arith));
    }

    pub rows_are : (t n : ℕ) → 0 < n → n ≤ N → rows_in h.settings.block t (reader ws) n ≡ standing_rows h.settings.block t (records_of f n)
    rows_are t n a b = rows_of_records h.settings.block t ((reader ws).block n) (records_of f n) (λ k l. slot_holds n k (numbered n a b) l)

    -- what all rows weigh is what the records' rows weigh
    pub weigh_records : (t : ℕ) (w : Row → ℕ) → all_weigh h.settings.block N t (reader ws) w ≡ total w (rows_at h.settings.block N t (records_of f))
    weigh_records t w = all_weigh_is h.settings.block N t (reader ws) w
        ∙ words_sum h.settings.block N t (records_of f) (reader ws).block w (λ n k a b l. slot_holds n k (numbered n a b) l)

    pub look_ready : (t : ℕ) → t < OPEN → LookSound h.settings.block h.settings.tags N t (reader ws) v
    look_ready t o = record {
      few = few;
      agree = agree;
      rises = st.index.rises;
      holds = indexed_holds (reader ws) st.index (λ l e j. reader_time N l e j few);
      rooted = linked_rooted st.links agree;
      lasts = linked_lasts st.links o;
      ended = λ n a b c. rows_are t n a b ∙ rows_ended st.kept t n (λ k e. st.calm n k (omega arith) e) c;
      unopened = λ n a b c. rows_are t n a b ∙ rows_unopened st.kept t n c;
      known = weigh_records t _ ∙ rows_known st.kept t;
      once = λ tag. rw (weigh_records t (λ r. is (eqb tag r.tag))) ((rows_once st.told h.settings.block N t o).once tag);
    }
