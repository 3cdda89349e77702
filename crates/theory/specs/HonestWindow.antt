-- A WINDOW ON HONEST WORDS: no record that stood in it has an unknown tag (window_sound), and its rows are exactly what the log tells of it
-- (window_log). Of a tag's records let x be the latest that stood in the window, and t a second of the window, not before one at which x stands, at which a
-- record r of the tag stands. Then r begins no later than x, so that it stands where x does; and no tag stands twice, so r is x (alone).
use Rattle.std.specs.Prelude.{◌≡◌, refl, ◌↔◌, true, false, ◌||◌, ℕ, ◌-◌, ◌≤◌, ◌<◌, eqb}
use Rattle.std.proofs.Math.Path.{sym}
use Rattle.std.proofs.Common.{ap, ap₂, ◌∙◌, true≢false, arith}
use mathlib.Core.List.Memᴰ
use mathlib.Core.List.{List, [], ◌∷◌, Memᴰ}
use Rattle.std.proofs.Math.Dec.{leb}
use borrow.Author.Tests.{eq-eqb, le-leb, lt-ltb, lt-leb}
use Rattle.base.specs.Branch.{is?, lt?, by_test, and_is}
use Rattle.base.specs.Lists.{those}
use Rattle.layout.specs.declared.settings.Settings.{Settings}
use Rattle.layout.specs.declared.payload.Payload.{Payload}
use Rattle.layout.specs.Sizes.{OPEN}
use Rattle.layout.specs.Fields.{opened_word, closed_word}
use Rattle.layout.specs.Parts.{block_word}
use Rattle.calls.specs.Calls.{Row}
use Rattle.calls.specs.LookBack.{reader}
use Rattle.calls.specs.Range.{PlacedRecord, record_in, is_read, read_records, stood_in, crossing}
use Rattle.calls.specs.Window.{of_tag, shown_row, window_rows, unknown_tag}
use Rattle.calls.specs.Log.{state_at, among, StoodLast}
use Rattle.calls.specs.History.{Account}
use Rattle.calls.specs.Claims.{AtSome, Greatest}
use Rattle.theory.specs.Records.{Records, Stands}
use Rattle.theory.specs.Effects.{view, closed-word, records_of}
use Rattle.theory.specs.Timeline.{Telling, none, some, not_some}
use Rattle.theory.specs.LogLaws.{tellings, telling_member, member_telling}
use Rattle.theory.specs.SoFar.{among_none, none_among}
use Rattle.theory.specs.RecordRows.{SlotHolds, row_of_record, row-of-record}
use Rattle.theory.specs.LookReady.{slot_holds, reader_block}
use Rattle.theory.specs.Honest.{Honest, head_is, block_numbered}
use Rattle.theory.specs.Latest.{those_pass, pass_those, none_of, stood_second, second_stood, of-tag, tag_of}
use Rattle.theory.specs.WindowRows.{row_latest, latest_row, HasRow, LatestOf}
use Rattle.theory.specs.ReadRecords.{read_at, at_read}

-- a tag of a row is among the rows
pub member_among : (tag : ℕ) {r : Row} (l : List Row) → Memᴰ r l → r.tag ≡ tag → among tag l ≡ true
member_among tag {r = r} [] i q = elim i [ ]
member_among tag (x ∷ l) (Memᴰ.head e) q = rw (eq-eqb x.tag tag (ap (λ (y : Row). y.tag) (sym e) ∙ q))
member_among tag (x ∷ l) (Memᴰ.tail i) q = by_test (eqb x.tag tag) (λ b. (b || among tag l) ≡ true) (λ e. refl) (λ e. member_among tag l i q)

module _ {ws : List ℕ} {a : Account} (i : Honest ws a) (first last : ℕ) (order : first ≤ last) (ends : last < OPEN) where
  abbrev s : Settings
  s = a.settings

  abbrev N : ℕ
  N = i.cursor.opened

  abbrev R : Records
  R = records_of i.memory

  abbrev read : List PlacedRecord
  read = crossing first last ws

  -- ---- the slots of the store
  abbrev held : ℕ → ℕ → PlacedRecord
  held n k = record_in s n ((reader ws).block n) k

  record Slot (n k : ℕ) : Type 0 where
    low : 1 ≤ n
    high : n ≤ N
    below : k < s.block

  words : {n k : ℕ} → Slot n k → SlotHolds ((reader ws).block n) k (R n k)
  words {n} {k} p = slot_holds i.stored n k (block_numbered i n p.low p.high) p.below

  stands_then : {n k t : ℕ} → Slot n k → ((held n k).from ≤ t) × (t < (held n k).to) → Stands t (R n k)
  stands_then p h = let w = words p in record { begun = omega (arith, w.from, h.0); lasts = omega (arith, w.to, h.1) }

  crossing_is : read ≡ those (stood_in first last) (read_records first last s (reader ws) N)
  unfolding crossing
  crossing_is = rw (head_is i)

  -- ---- a record that crosses the window is that of a slot, which stands at some second of it
  record FromSlot (x : PlacedRecord) : Type 0 where
    block : ℕ
    slot : ℕ
    inside : Slot block slot
    is : x ≡ held block slot
    some : AtSome first last x

  from_slot : (x : PlacedRecord) → Memᴰ x read → FromSlot x
  from_slot x j =
      let z = those_pass (stood_in first last) _ (rw crossing_is at j) in
      let r = read_at first last s (reader ws) N x z.0 in
      record {
        block = r.block;
        slot = r.slot;
        inside = record { low = r.low; high = r.high; below = r.below };
        is = r.is;
        some = stood_second first last x order z.1;
      }

  -- and stands then
  slot_stands : {x : PlacedRecord} (z : FromSlot x) → Stands z.some.second (R z.block z.slot)
  slot_stands {x} z = stands_then z.inside (rw z.is at z.some.stands)

  -- ---- a record that stands at a second of the window crosses it: its block is read
  module _ (n k t : ℕ) (stands : Stands t (R n k)) (after : first ≤ t) (before : t ≤ last) where
    slot_is : Slot n k
    slot_is = let p = i.rest.full.state.kept.used n k (omega (arith, stands.lasts)) in record { low = p.low; high = p.high; below = p.slot }

    block_read : is_read first last ((reader ws).block n) ≡ true
    unfolding is_read
    block_read =
        let st = i.rest.full.state in
        let p = slot_is in
        let g = st.kept.good n k (st.kept.used n k (omega (arith, stands.lasts))) in
        let numbered = block_numbered i n p.low p.high in
        let opened = reader_block i.stored n opened_word numbered (omega arith) in
        let closed = reader_block i.stored n closed_word numbered (omega arith) ∙ sym (closed-word i.cursor i.memory n p.low) in
        let lasts : t < (view i.cursor i.memory).closed n = is? (R n k).to OPEN
        (λ o. is? ((view i.cursor i.memory).closed n) OPEN (λ z. omega arith) (λ d. absurd (st.calm n k d o)))
        (λ d. omega (arith, (g.ended d).1, stands.lasts)) in
        and_is (le-leb (block_word ((reader ws).block n) opened_word) last (omega (arith, opened, g.early, stands.begun)))
        (lt-ltb first (block_word ((reader ws).block n) closed_word) (omega (arith, closed, lasts)))

    stood_crosses : Memᴰ (held n k) read
    stood_crosses =
        let w = words slot_is in
        rw crossing_is (pass_those (stood_in first last) _ (at_read first last s (reader ws) N n k slot_is.low slot_is.high slot_is.below block_read)
        (second_stood first last (held n k) (record {
          second = t;
          inside = (after, before);
          stands = (omega (arith, w.from, stands.begun), omega (arith, w.to, stands.lasts));
        })))

  -- REFUSAL 12 HAS NO CASE: every record that crosses the window has a tag below D.
  known : (x : PlacedRecord) → Memᴰ x read → x.tag < s.tags
  known x j =
      let z = from_slot x j in
      let st = i.rest.full.state in
      let g = st.kept.good z.block z.slot (st.kept.used z.block z.slot (omega (arith, (slot_stands z).lasts))) in
      omega (arith, g.known, ap (λ (y : PlacedRecord). y.tag) z.is, (words z.inside).tag)

  pub window_sound : unknown_tag s.tags read ≡ false
  unfolding unknown_tag
  window_sound = none_of (λ (r : PlacedRecord). leb s.tags r.tag) read (λ x j. lt-leb s.tags x.tag (known x j))

  -- ---- what the log tells of a record that stands
  slot_told : {n k t : ℕ} → Slot n k → t ≤ last → Stands t (R n k) → tellings a.log t (held n k).tag ≡ some (held n k).payload
  slot_told {n} {k} {t} p h w =
      let z = words p in
      rw (z.tag, z.payload) (i.rest.full.state.told.sound t n k (omega arith) w)

  -- ---- a row is what the log tells
  abbrev given : List Row
  given = window_rows read s.tags

  -- x is the latest record of a tag
  module _ {x : PlacedRecord} (tag : ℕ) (g : Greatest (of_tag tag read) x) where
    its_slot : FromSlot x
    its_slot = from_slot x (of-tag tag read g.member).0

    its_tag : x.tag ≡ tag
    its_tag = (of-tag tag read g.member).1

    -- of the tag's records it alone stands in the window from the second on at which it does: another begins no later, so that it stands then too
    alone : {n k t : ℕ} → Stands t (R n k) → first ≤ t → t ≤ last → (R n k).tag ≡ tag → its_slot.some.second ≤ t
        → (its_slot.block ≡ n) × (its_slot.slot ≡ k)
    alone {n} {k} {t} w p q e later =
        let o = its_slot in
        let u = words (slot_is n k t w p q) in
        let v = words o.inside in
        let own = slot_stands o in
        let from = g.from (held n k) (tag_of tag read (stood_crosses n k t w p q) (u.tag ∙ e)) in
        let both : Stands o.some.second (R n k) = record {
          begun = omega (arith, from, u.from, v.from, ap (λ (y : PlacedRecord). y.from) o.is, own.begun);
          lasts = omega (arith, w.lasts, later);
        } in
        i.rest.full.state.told.once o.some.second n k o.block o.slot (omega (arith, o.some.inside)) both own
        (e ∙ sym its_tag ∙ ap (λ (y : PlacedRecord). y.tag) o.is ∙ v.tag)

    -- what it shows
    its_row : shown_row x ≡ row_of_record (R its_slot.block its_slot.slot)
    its_row = let o = its_slot in let v = words o.inside in
        ap shown_row o.is ∙ (λ j. record { tag = v.tag j; payload = v.payload j })

  row_told : (r : Row) → Memᴰ r given → StoodLast a.log first last r
  row_told r j =
      let l = row_latest read s.tags r j in
      let x = l.of in
      let z = its_slot r.tag l.greatest in
      lt? last x.to
      (λ h. told l last (omega arith) (omega arith) (omega (arith, z.some.inside, z.some.stands)) h (λ t p q. absurd (omega arith)))
      (λ h. told l (x.to - 1) (omega (arith, z.some.inside, z.some.stands)) (omega (arith, z.some.inside, z.some.stands))
      (omega (arith, z.some.stands)) (omega (arith, z.some.stands)) (λ t p q. none_later l t (omega arith) q))
    where
      -- nothing of the tag stands after its latest record has ended
      none_later : (l : LatestOf read s.tags r) (t : ℕ) → l.of.to ≤ t → t ≤ last → among r.tag (state_at a.log t) ≡ false
      none_later l t p q = go (tellings a.log t r.tag) refl
        where
          go : (x : Telling) → tellings a.log t r.tag ≡ x → among r.tag (state_at a.log t) ≡ false
          go none e = none_among r.tag (state_at a.log t) e
          go (some y) e =
              let w = i.rest.full.state.told.whole t r.tag y (omega arith) e in
              let z = its_slot r.tag l.greatest in
              let x = z.some in
              let one = alone r.tag l.greatest w.2 (omega (arith, x.inside, x.stands)) q w.3 (omega (arith, x.stands)) in
              let late : Stands t (R z.block z.slot) = rw (one.0, one.1) w.2 in
              absurd (omega (arith, late.lasts, (words z.inside).to, ap (λ (y : PlacedRecord). y.to) z.is))

      told : (l : LatestOf read s.tags r) (t : ℕ) → first ≤ t → t ≤ last → l.of.from ≤ t → t < l.of.to
          → ((u : ℕ) → t < u → u ≤ last → among r.tag (state_at a.log u) ≡ false) → StoodLast a.log first last r
      told l t p q from to later =
          let z = its_slot r.tag l.greatest in
          let then : (l.of.from ≤ t) × (t < l.of.to) = (from, to) in
          let w = slot_told z.inside q (stands_then z.inside (rw z.is at then)) in
          record {
            at = t;
            inside = (p, q);
            stands = rw (l.row, z.is) (telling_member _ _ (state_at a.log t) w);
            latest = later;
          }

  -- ---- a tag that stands at a second of the window has a row
  record Standing (t tag : ℕ) : Type 0 where
    block : ℕ
    slot : ℕ
    stands : Stands t (R block slot)
    tagged : (R block slot).tag ≡ tag
    row : HasRow read s.tags tag

  standing : (t tag : ℕ) (y : Payload) → first ≤ t → t ≤ last → tellings a.log t tag ≡ some y → Standing t tag
  standing t tag y p q e =
      let w = i.rest.full.state.told.whole t tag y (omega arith) e in
      let tagged = (words (slot_is w.0 w.1 t w.2 p q)).tag ∙ w.3 in
      let crosses = stood_crosses w.0 w.1 t w.2 p q in
      record {
        block = w.0;
        slot = w.1;
        stands = w.2;
        tagged = w.3;
        row = latest_row read s.tags tag (omega (arith, known _ crosses, tagged)) (tag_of tag read crosses tagged);
      }

  pub stood_given : (t tag : ℕ) → first ≤ t → t ≤ last → among tag (state_at a.log t) ≡ true → among tag given ≡ true
  stood_given t tag p q e = go (tellings a.log t tag) refl
    where
      go : (x : Telling) → tellings a.log t tag ≡ x → among tag given ≡ true
      go none f = absurd (true≢false (sym e ∙ none_among tag (state_at a.log t) f))
      go (some y) f = let z = (standing t tag y p q f).row in member_among tag given z.member (its_tag tag z.greatest)

  -- ---- and what the log tells of the window is a row: the tag's latest record is the one that stands at the last second
  told_row : (r : Row) → StoodLast a.log first last r → Memᴰ r given
  told_row r l =
      let e = member_telling (i.once.at l.at (omega (arith, l.inside))) l.stands in
      let z = standing l.at r.tag r.payload l.inside.0 l.inside.1 e in
      let g = z.row.greatest in
      let one = alone r.tag g z.stands l.inside.0 l.inside.1 z.tagged (by g) in
      let own = i.rest.full.state.told.sound l.at z.block z.slot (omega (arith, l.inside)) z.stands in
      Memᴰ.cast (row-of-record (R z.block z.slot) (tellings a.log l.at) e z.tagged own
      ∙ sym (its_row r.tag g ∙ ap₂ (λ (n k : ℕ). row_of_record (R n k)) one.0 one.1)) z.row.member
    where
      -- the latest record stands at no second after the last at which the tag does
      by : {x : PlacedRecord} (g : Greatest (of_tag r.tag read) x) → (its_slot r.tag g).some.second ≤ l.at
      by g =
          let o = its_slot r.tag g in
          let t = o.some.second in
          lt? l.at t
          (λ h.
          let told = slot_told o.inside o.some.inside.1 (slot_stands o) in
          let own-tag : (held o.block o.slot).tag ≡ r.tag = ap (λ (y : PlacedRecord). y.tag) (sym o.is) ∙ its_tag r.tag g in
          let untold = among_none r.tag (state_at a.log t) (l.latest t h o.some.inside.1) in
          not_some untold (ap (tellings a.log t) (sym own-tag) ∙ told))
          (λ h. h)

  -- THE WINDOW AND THE LOG AGREE.
  pub window_log : (r : Row) → Memᴰ r given ↔ StoodLast a.log first last r
  window_log r = (row_told r, told_row r)
