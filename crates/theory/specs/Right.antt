-- What the register's invariant says to a look-back at t (LookSound), and what follows: it is answered (look_answered), and whatever it answers is right
-- (look_right): its rows are all records that stand at t, each tag once, no block is listed twice, and list and rows keep the bounds by the blocks open at t.
use Rattle.std.specs.Prelude.{◌≡◌, refl, Bool, true, false, ◌&&◌, List, [], leb, eqb, length, get_or}
use Prim.Native.Nat.{ℕ, zero, suc, ◌+◌, ◌*◌, ◌≤◌, ◌<◌}
use Rattle.std.proofs.Common.{zero-mul, add-mul, one-mul}
use native.Mathlib.Omega.{arith}
use Rattle.std.proofs.Math.Dec.{ltb}
use borrow.Author.Tests.{lt-ltb, le-ltb, le-leb, lt-leb}
use Rattle.base.specs.Branch.{lt?}
use Rattle.base.specs.Sums.{is, total, total_nil, total_length, sum_to, sum_to_upto, sum_to_none, sum_to_same, sum_to_times}
use Rattle.base.specs.Pigeonhole.{keyed, pigeonhole}
use Rattle.layout.specs.Sizes.{page_len}
use Rattle.layout.specs.Head.{head_of}
use Rattle.calls.specs.Calls.{Row}
use Rattle.calls.specs.Walk.{Reader, Pass, entries, looked, look}
use Rattle.calls.specs.LookBack.{reader, look_at, is_unsound}
use Rattle.theory.specs.Row.{BlockView}
use Rattle.theory.specs.FoundWalk.{closed_of, rows_in, Search, looks}
use Rattle.theory.specs.Listed.{Apart, apart_wider, path_apart, outlasts, Late, late_outlasts, path_half, rows_weigh, path_rows, Agree, Rooted, WholePath, whole_path}
use Rattle.theory.specs.SearchLaws.{entry, finds}

-- what all rows of blocks 1 to N at t weigh
unfoldable pub all_weigh : ℕ → ℕ → ℕ → Reader → (Row → ℕ) → ℕ
all_weigh b N t R w = sum_to N (rows_weigh b t R w)

pub all_weigh_is : (b N t : ℕ) (R : Reader) (w : Row → ℕ) → all_weigh b N t R w ≡ sum_to N (λ n. total w (rows_in b t R n))
unfolding all_weigh rows_weigh
all_weigh_is b N t R w = refl

-- the blocks open at t: opened ≤ t < closed
unfoldable pub blocks_open : ℕ → ℕ → BlockView → ℕ
blocks_open N t v = sum_to N (λ n. is (leb (v.opened n) t && ltb t (v.closed n)))

pub record LookSound (b d N t : ℕ) (R : Reader) (v : BlockView) : Type 0 where
  pub few : N ≤ 4096
  -- the reader hands out the view
  pub agree : Agree R v N
  -- opening seconds rise, and the index holds them
  pub rises : (n : ℕ) → 1 ≤ n → n < N → v.opened n ≤ v.opened (n + 1)
  pub holds : (l e j : ℕ) → l < 3 → j < page_len → page_len * e + j < entries N l → get_or (R.page l e) j 0 ≡ entry v.opened l (page_len * e + j)
  -- every block has its tree
  pub rooted : (n : ℕ) → 0 < n → n ≤ N → Rooted R v n
  -- a block stays open until the next one opens
  pub lasts : (n : ℕ) → 0 < n → n ≤ N → (n < N → t < v.opened (n + 1)) → t < v.closed n
  -- no record stands in a block that closed by t or opens after t
  pub ended : (n : ℕ) → 0 < n → n ≤ N → v.closed n ≤ t → rows_in b t R n ≡ []
  pub unopened : (n : ℕ) → 0 < n → n ≤ N → t < v.opened n → rows_in b t R n ≡ []
  -- all tags that stand are below D, and none stands twice
  pub known : all_weigh b N t R (λ r. is (leb d r.tag)) ≡ 0
  pub once : (tag : ℕ) → all_weigh b N t R (λ r. is (eqb tag r.tag)) ≤ 1

pub record RightLook (b N t : ℕ) (R : Reader) (v : BlockView) (rows : List Row) (list : List ℕ) : Type 0 where
  -- the rows are those of all blocks, order aside, and each tag once
  pub sum : (w : Row → ℕ) → total w rows ≡ all_weigh b N t R w
  pub once : (tag : ℕ) → keyed (λ r. r.tag) tag rows ≤ 1
  pub apart : Apart 0 (suc N) list
  pub half : length list ≤ 2 * blocks_open N t v
  -- where every block that is open at t, and no longer takes records, has q rows
  pub dense : (q : ℕ) → ((n : ℕ) → 0 < n → n < N → v.opened (n + 1) ≤ t → t < v.closed n → q ≤ length (rows_in b t R n))
      → blocks_open N t v * q ≤ length rows + q

pub record LookAnswered (b d N t : ℕ) (R : Reader) (v : BlockView) : Type 0 where
  pub rows : List Row
  pub list : List ℕ
  pub pages : List Pass
  pub seen : look b d N t R ≡ looked rows list pages
  pub right : RightLook b N t R v rows list

module _ {b d N t : ℕ} {R : Reader} {v : BlockView} (s : LookSound b d N t R v) where
  late : (w : Row → ℕ) → Late t R N (rows_weigh b t R w)
  unfolding Late rows_weigh
  late w n i j h = rw (s.ended n i j (omega (arith, s.agree.closed n i j))) (total_nil w)

  -- m is the last block that opened by t, and y the path from it
  module _ (m : ℕ) (most : m ≤ N) (begun : (n : ℕ) → 1 ≤ n → n ≤ m → v.opened n ≤ t) (later : (n : ℕ) → m < n → n ≤ N → t < v.opened n)
      (y : WholePath b t s.agree m) where
    beyond : (w : Row → ℕ) (n : ℕ) → m < n → n ≤ N → rows_weigh b t R w n ≡ 0
    unfolding rows_weigh
    beyond w n p q = rw (s.unopened n (omega arith) q (later n p q)) (total_nil w)

    sums : (w : Row → ℕ) → total w y.rows ≡ all_weigh b N t R w
    unfolding all_weigh
    sums w =
        let z = rows_weigh b t R w in
        omega (arith, path_rows b t R w N (late w) y.walked most, y.sum z (late w), sum_to_upto z m, sum_to_none z m N most (beyond w))

    -- of the blocks that opened by t, those that outlast t are open at t
    open_outlast : blocks_open N t v ≡ sum_to m (outlasts t R)
    unfolding blocks_open outlasts
    open_outlast =
        let z : ℕ → ℕ = λ n. is (leb (v.opened n) t && ltb t (v.closed n)) in
        omega (
          arith,
          sum_to_same (outlasts t R) z m (λ n p q. rw (le-leb (v.opened n) t (begun n p q), s.agree.closed n p (omega arith))),
          sum_to_none z m N most (λ n p q. rw (lt-leb (v.opened n) t (later n p q))),
        )

    half_open : length y.list ≤ 2 * blocks_open N t v
    half_open =
        let c = s.agree in
        omega (
          arith,
          open_outlast,
          path_half b t R N
              (λ n p q u.
              let r = s.rooted n p q in
              let e = c.up n p q in
              let l = r.lower in
              rw e (omega (arith, c.closed n p q, c.closed (v.up n) (omega arith) (omega arith), r.climbs)))
              y.walked most (λ p. omega (arith, c.closed m p most, s.lasts m p most (λ h. later (m + 1) (omega arith) (omega arith)))),
          y.sum (outlasts t R) (late_outlasts t R N),
          sum_to_upto (outlasts t R) m,
        )

    -- all blocks up to m but m itself no longer take records at t
    dense_rows : (q : ℕ) → ((n : ℕ) → 0 < n → n < N → v.opened (n + 1) ≤ t → t < v.closed n → q ≤ length (rows_in b t R n))
        → blocks_open N t v * q ≤ length y.rows + q
    unfolding sum_to outlasts rows_weigh all_weigh
    dense_rows q useful = rw open_outlast (omega (
      arith,
      total_length y.rows,
      sums (λ r. 1),
      but_last m (omega arith),
      sum_to_none (rows_weigh b t R (λ r. 1)) m N most (beyond (λ r. 1)),
    ))
      where
        one : (n : ℕ) → 0 < n → n < m → outlasts t R n * q ≤ rows_weigh b t R (λ r. 1) n
        one n p h = lt? t (v.closed n)
            (λ c. simp (s.agree.closed n p (omega arith), lt-ltb t _ c, total_length, one-mul)
            (useful n p (omega arith) (begun (n + 1) (omega arith) (omega arith)) c))
            (λ c. simp (s.agree.closed n p (omega arith), le-ltb t _ c, zero-mul) (omega arith))

        at_most : (c : Bool) → is c * q ≤ q
        at_most true = simp one-mul (omega arith)
        at_most false = simp zero-mul (omega arith)

        but_last : (n : ℕ) → n ≤ m → sum_to n (outlasts t R) * q ≤ sum_to n (rows_weigh b t R (λ r. 1)) + q
        but_last zero h = simp zero-mul (omega arith)
        but_last (suc n) h = simp add-mul (omega (
          arith,
          sum_to_times q (outlasts t R) (rows_weigh b t R (λ r. 1)) n (λ j p i. one j p (omega arith)),
          at_most (ltb t (closed_of R (suc n))),
        ))

    tags_once : (tag : ℕ) → keyed (λ r. r.tag) tag y.rows ≤ 1
    tags_once tag = omega (arith, s.once tag, sums (λ r. is (eqb tag r.tag)))

    few_rows : length y.rows ≤ d
    few_rows = pigeonhole (λ r. r.tag) d y.rows (omega (arith, s.known, sums (λ r. is (leb d r.tag)))) tags_once

    answered_from : {ps : List Pass} → Search t N R m ps → LookAnswered b d N t R v
    answered_from {ps} found = record {
      rows = y.rows;
      list = y.list;
      pages = ps;
      seen = looks (record { block = m; searched = found; walked = y.walked; fits = few_rows });
      right = record {
        sum = sums;
        once = tags_once;
        apart = apart_wider (omega arith) (path_apart b t R y.walked);
        half = half_open;
        dense = dense_rows;
      };
    }

  pub look_answered : LookAnswered b d N t R v
  look_answered =
      let x = finds t N R v.opened s.rises s.holds s.few in
      let y = whole_path b t s.agree x.block x.most (λ n p q. s.rooted n p (omega (arith, x.most))) in
      answered_from x.block x.most x.begun x.later y x.walked

  pub look_right : {r : List Row} {l : List ℕ} {ps : List Pass} → look b d N t R ≡ looked r l ps → RightLook b N t R v r l
  look_right {r} {l} {ps} e =
      let x = look_answered in
      let i : x.rows ≡ r = cc x.seen in
      let j : x.list ≡ l = cc x.seen in
      rw (i, j) at x.right

-- said of the words: the walk is sound, and what it finds is right
module _ (ws : List ℕ) {t : ℕ} {v : BlockView}
    (s : LookSound (head_of ws).settings.block (head_of ws).settings.tags (head_of ws).cursor.opened t (reader ws) v) where
  pub walk_sound : is_unsound (look_at ws t) ≡ false
  unfolding look_at
  walk_sound = rw (look_answered s).seen

  pub walk_right : {r : List Row} {l : List ℕ} {ps : List Pass} → look_at ws t ≡ looked r l ps
      → RightLook (head_of ws).settings.block (head_of ws).cursor.opened t (reader ws) v r l
  unfolding look_at
  walk_right e = look_right s e
