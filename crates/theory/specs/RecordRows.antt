-- From the records to the rows: the records that stand at a second, in blocks 1 to N and slots below b, give the rows that the log has there,
-- order aside and no tag twice. The words of a block give the rows of its records.
use Rattle.std.specs.Prelude.{◌≡◌, refl, ◌≢◌, true, cond, ◌&&◌, ℕ, zero, suc, ◌+◌, ◌≤◌, ◌<◌, leb, ltb}
use Rattle.std.proofs.Common.{sym, ap, ◌∙◌, arith, leb-true, ltb-true, le-leb, lt-ltb}
use mathlib.Core.List.Memᴰ
use mathlib.Core.List.{List, [], ◌∷◌, Memᴰ}
use Rattle.std.proofs.lemmas.Bool.{lt-leb}
use Rattle.base.specs.Branch.{by_eqb, cond_all, and-true, and_is}
use Rattle.base.specs.Sums.{total, totals, total_none, is, sum_to, sum_to_same}
use Rattle.base.specs.Lists.{joined}
use Rattle.base.specs.SameRows.{Same}
use Rattle.layout.specs.Sizes.{OPEN}
use Rattle.layout.specs.Fields.{tag_word, from_word, to_word}
use Rattle.layout.specs.Parts.{slot_word}
use Rattle.layout.specs.Payload.{payload_in}
use Rattle.calls.specs.Calls.{Row}
use Rattle.calls.specs.Log.{Log, state_at}
use Rattle.calls.specs.Walk.{row_of, rows_of}
use Rattle.theory.specs.Row.{BlockView}
use Rattle.theory.specs.Records.{Record, Records, Stands, Kept}
use Rattle.theory.specs.Timeline.{Timeline, Told, Telling, some}
use Rattle.theory.specs.MemberLaws.{unique_nil, Among, all_members, same_members, sum_to_below, joined_nil, total_joined, joined_members, members_joined, unique_joined}
use Rattle.theory.specs.LogLaws.{tellings, telling_member, member_telling, UniqueTags, Once}

abbrev pub row_of_record : Record → Row
row_of_record r = record { tag = r.tag; payload = r.payload }

-- its row, if it stands at t
unfoldable pub standing_row : ℕ → Record → List Row
standing_row t r = cond (leb r.from t && ltb t r.to) (row_of_record r ∷ []) []

-- the rows of a block's b slots, in order
unfoldable pub standing_rows : ℕ → ℕ → (ℕ → Record) → List Row
standing_rows b t f = joined (λ k. standing_row t (f k)) b

-- the rows of blocks 1 to N, block by block
unfoldable pub rows_at : ℕ → ℕ → ℕ → Records → List Row
rows_at b N t R = joined (λ m. standing_rows b t (R (suc m))) N

-- ---- one record

-- A record stands or not, and its row follows.
by_standing : (t : ℕ) (r : Record) (P : List Row → Type 0) → (Stands t r → P (row_of_record r ∷ []))
    → ((Stands t r → ⊥) → P []) → P (standing_row t r)
unfolding standing_row
by_standing t r P f g = cond_all P (leb r.from t && ltb t r.to)
    (λ e.
    let c = and-true (leb r.from t) (ltb t r.to) e in
    f (record { begun = leb-true r.from t c.0; lasts = ltb-true t r.to c.1 }))
    (λ e. g (λ w.
    let s : (leb r.from t && ltb t r.to) ≡ true = and_is (le-leb r.from t w.begun) (lt-ltb t r.to w.lasts) in
    let z : ◌≡◌ {A = ℕ} 0 1 = cc in
    omega arith))

pub standing-row : {t : ℕ} {r : Record} → Stands t r → standing_row t r ≡ row_of_record r ∷ []
standing-row {t} {r} w = by_standing t r (λ l. l ≡ row_of_record r ∷ []) (λ v. refl) (λ d. absurd (d w))

no_row : {t : ℕ} {r : Record} → (Stands t r → ⊥) → standing_row t r ≡ []
no_row {t} {r} d = by_standing t r (λ l. l ≡ []) (λ w. absurd (d w)) (λ v. refl)

unique_row : (t : ℕ) (r : Record) → UniqueTags (standing_row t r)
unique_row t r = by_standing t r UniqueTags
    (λ w. record { once = λ m. simp totals (by_eqb m r.tag (λ c. is c + 0 ≤ 1) (λ p. omega arith) (λ p. omega arith)) })
    (λ d. unique_nil (λ x. x.tag))

-- x is the row of r, which stands
record FromRecord (t : ℕ) (r : Record) (x : Row) : Type 0 where
  stands : Stands t r
  row : x ≡ row_of_record r

from_record : (t : ℕ) (r : Record) (x : Row) → Memᴰ x (standing_row t r) → FromRecord t r x
from_record t r x = by_standing t r (λ l. Memᴰ x l → FromRecord t r x)
    (λ w i. record { stands = w; row = Memᴰ.eq_of_singleton i })
    (λ d i. absurd (Memᴰ.not-nil i))

-- A record and a row of one tag, each with what is told of it.
pub row-of-record : (r : Record) {x : Row} (l : ℕ → Telling) → l x.tag ≡ some x.payload → r.tag ≡ x.tag → l r.tag ≡ some r.payload
    → x ≡ row_of_record r
row-of-record r {x} l e q s = let v : x.payload ≡ r.payload = cc in rw (q, ← v)

-- ---- a block

-- The words of slot k are the record.
pub record SlotHolds (block : List ℕ) (k : ℕ) (r : Record) : Type 0 where
  pub tag : slot_word block k tag_word ≡ r.tag
  pub payload : payload_in block k ≡ r.payload
  pub from : slot_word block k from_word ≡ r.from
  pub to : slot_word block k to_word ≡ r.to

-- The rows that a look-back takes of a block are those of its records.
pub rows_of_records : (b t : ℕ) (block : List ℕ) (f : ℕ → Record) → ((k : ℕ) → k < b → SlotHolds block k (f k))
    → rows_of b t block ≡ standing_rows b t f
unfolding rows_of row_of standing_rows standing_row joined
rows_of_records zero t block f h = refl
rows_of_records (suc b) t block f h =
    let s = h b (omega arith) in
    rw (rows_of_records b t block f (λ k p. h k (omega arith)), s.tag, s.payload, s.from, s.to)

-- Where none stands, there are none.
pub rows_none : (b t : ℕ) (f : ℕ → Record) → ((k : ℕ) → k < b → Stands t (f k) → ⊥) → standing_rows b t f ≡ []
unfolding standing_rows
rows_none b t f h = joined_nil _ b (λ k p. no_row (h k p))

-- ---- all blocks

-- The sum over all rows, block by block.
pub rows_sum : (b N t : ℕ) (R : Records) (w : Row → ℕ) → sum_to N (λ m. total w (standing_rows b t (R m))) ≡ total w (rows_at b N t R)
unfolding rows_at
rows_sum b N t R w = sum_to_below _ N ∙ sym (total_joined _ w N)

-- And over the rows that a look-back takes, where the blocks hold the records.
pub words_sum : (b N t : ℕ) (R : Records) (block : ℕ → List ℕ) (w : Row → ℕ)
    → ((m k : ℕ) → 0 < m → m ≤ N → k < b → SlotHolds (block m) k (R m k))
    → sum_to N (λ m. total w (rows_of b t (block m))) ≡ total w (rows_at b N t R)
words_sum b N t R block w h =
    sum_to_same _ _ N (λ m p q. ap (total w) (rows_of_records b t (block m) (R m) (λ k j. h m k p q j))) ∙ rows_sum b N t R w

-- A row's record, and where it is.
record RowFrom (t : ℕ) (R : Records) (x : Row) : Type 0 where
  block : ℕ
  slot : ℕ
  from : FromRecord t (R block slot) x

row_from : (b N t : ℕ) (R : Records) (x : Row) → Memᴰ x (rows_at b N t R) → RowFrom t R x
unfolding rows_at standing_rows
row_from b N t R x i =
    let m = joined_members _ x N i in
    let j = joined_members _ x b m.member in
    record { block = suc m.at; slot = j.at; from = from_record t _ x j.member }

row_at : (b N t : ℕ) (R : Records) (n k : ℕ) → 1 ≤ n → n ≤ N → k < b → Stands t (R n k) → Memᴰ (row_of_record (R n k)) (rows_at b N t R)
unfolding rows_at standing_rows
row_at b N t R zero k l h s w = absurd (omega arith)
row_at b N t R (suc n) k l h s w = members_joined _ _ N n h (members_joined _ _ b k s (rw (standing-row w) (Memᴰ.head refl)))

-- No two records of one tag stand, so no tag stands twice.
module _ {R : Records} {log : Timeline} (told : Told R log) (b N t : ℕ) (o : t < OPEN) where
  one_place : {n k m i : ℕ} {x y : Row} → FromRecord t (R n k) x → FromRecord t (R m i) y → x.tag ≡ y.tag → (n ≡ m) × (k ≡ i)
  one_place {n} {k} {m} {i} p q e = told.once t m i n k o q.stands p.stands (cc)

  pub rows_once : UniqueTags (rows_at b N t R)
  unfolding rows_at standing_rows
  rows_once = unique_joined _ _ N
      (λ n h. unique_joined _ _ b (λ k j. unique_row t (R (suc n) k))
      (λ k i x y h j p q e. (one_place (from_record t _ x p) (from_record t _ y q) e).1))
      (λ n m x y h j p q e.
      let k = joined_members _ x b p in
      let i = joined_members _ y b q in
      let s = (one_place (from_record t _ x k.member) (from_record t _ y i.member) e).0 in
      omega arith)

module _ {R : Records} {v : BlockView} {b tags N fill clock : ℕ} (kept : Kept R v b tags N fill clock) (t : ℕ) where
  -- All tags are below D.
  pub rows_known : total (λ r. is (leb tags r.tag)) (rows_at b N t R) ≡ 0
  rows_known = total_none _ (all_members (rows_at b N t R) (λ x i.
      let p = row_from b N t R x i in
      let r = R p.block p.slot in
      let u = kept.used p.block p.slot (omega (arith, p.from.stands.lasts)) in
      rw (p.from.row, lt-leb tags r.tag (kept.good p.block p.slot u).known)))

  -- Nothing stands in a block before it opens, nor, once its records are ended, from its closing on.
  pub rows_unopened : (n : ℕ) → t < v.opened n → standing_rows b t (R n) ≡ []
  rows_unopened n h = rows_none b t (R n) (λ k p w.
      let g = kept.good n k (kept.used n k (omega (arith, w.lasts))) in
      omega (arith, g.early, w.begun))

  pub rows_ended : (n : ℕ) → ((k : ℕ) → (R n k).to ≢ OPEN) → v.closed n ≤ t → standing_rows b t (R n) ≡ []
  rows_ended n ends h = rows_none b t (R n) (λ k p w.
      let g = kept.good n k (kept.used n k (omega (arith, w.lasts))) in
      omega (arith, (g.ended (ends k)).1, w.lasts))

  -- The records tell the log: their rows are the log's, order aside.
  module _ {log : Log} (once : Once log) (told : Told R (tellings log)) (o : t < OPEN) where
    in_log : Among (rows_at b N t R) (state_at log t)
    in_log x i =
        let p = row_from b N t R x i in
        let s = told.sound t p.block p.slot o p.from.stands in
        rw p.from.row (telling_member _ _ (state_at log t) s)

    in_records : Among (state_at log t) (rows_at b N t R)
    in_records x i =
        let e = member_telling (once.at t o) i in
        let w = told.whole t x.tag x.payload o e in
        let p = kept.used w.0 w.1 (omega (arith, w.2.lasts)) in
        let s = told.sound t w.0 w.1 o w.2 in
        Memᴰ.cast (row-of-record (R w.0 w.1) (tellings log t) e w.3 s) (row_at b N t R w.0 w.1 p.low p.high p.slot w.2)

    pub rows_log : Same (rows_at b N t R) (state_at log t)
    rows_log = same_members (λ r. r.tag) _ _ (rows_once told b N t o) (once.at t o) in_log in_records
