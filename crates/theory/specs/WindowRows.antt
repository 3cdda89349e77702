-- THE ROWS OF A WINDOW, of whatever records: each is that of its tag's latest record, every tag below D that has a record has one (row_latest, latest_row),
-- and their tags ascend.
use Rattle.std.specs.Prelude.{◌≡◌, refl, ◌⊎◌, length}
use Rattle.std.proofs.Math.Path.{ap}
use Rattle.std.proofs.Common.{◌∙◌, inl, inr, length-append}
use Rattle.std.proofs.Math.Logic.{∥∥₁_elim}
use mathlib.Core.HLevel.{⊥_prop}
use mathlib.Core.List.{List, [], ◌∷◌, ◌++◌, map, map-append, append-nil, Pairwise}
use mathlib.Core.List.Memᴰ
use mathlib.Core.List.{Memᴰ}
use Prim.Native.Nat.{ℕ, zero, suc, ◌≤◌, ◌<◌}
use native.Mathlib.Omega.{arith}
use Rattle.base.specs.Branch.{lt?}
use Rattle.base.specs.Lists.{joined}
use Rattle.base.specs.Sums.{All, nil, cons, all_map, all_append}
use Rattle.calls.specs.Calls.{Row}
use Rattle.calls.specs.Range.{PlacedRecord}
use Rattle.calls.specs.Window.{latest_from, latest, of_tag, shown_row, window_rows}
use Rattle.calls.specs.Claims.{Greatest}
use Rattle.theory.specs.MemberLaws.{joined_members, members_joined}
use Rattle.theory.specs.Latest.{greatest_from, of-tag}

-- a number above all before it goes on ascending
last_ascends : {n : ℕ} {l : List ℕ} → Pairwise (λ x y. x < y) l → All (λ x. x < n) l → Pairwise (λ x y. x < y) (l ++ (n ∷ []))
last_ascends Pairwise.nil a = Pairwise.cons (λ m i. absurd (∥∥₁_elim i ⊥_prop (λ j. Memᴰ.not-nil j))) Pairwise.nil
last_ascends {n} (Pairwise.cons {a = x} {l} h p) (cons b a) = Pairwise.cons
    (λ m i. lt? x m (λ k. k) (λ k. absurd (∥∥₁_elim i ⊥_prop (λ j. which m k (Memᴰ.append_cases l j)))))
    (last_ascends p a)
  where
    which : (m : ℕ) → m ≤ x → Memᴰ m l ⊎ Memᴰ m (n ∷ []) → ⊥
    which m k (inl j) = omega (arith, h m ∣ j ∣₁)
    which m k (inr j) = omega (arith, Memᴰ.eq_of_singleton j)

-- the rows of one tag: none, or that of its latest record
pub data TagRows (l : List PlacedRecord) (tag : ℕ) : List Row → Type 0 where
  no_row : of_tag tag l ≡ [] → TagRows l tag []
  one_row : {x : PlacedRecord} → Greatest (of_tag tag l) x → x.tag ≡ tag → TagRows l tag (shown_row x ∷ [])

module _ (l : List PlacedRecord) where
  abbrev rows_of_tag : ℕ → List Row
  rows_of_tag tag = map shown_row (latest (of_tag tag l))

  tag_rows : (tag : ℕ) → TagRows l tag (rows_of_tag tag)
  tag_rows tag = go (of_tag tag l) refl
    where
      go : (m : List PlacedRecord) → of_tag tag l ≡ m → TagRows l tag (map shown_row (latest m))
      go [] e = no_row e
      go (x ∷ m) e =
          let g : Greatest (of_tag tag l) (latest_from x m) = rw e (greatest_from x m) in
          one_row g (of-tag tag l g.member).1

  -- ---- a row is that of its tag's latest record
  pub record LatestOf (d : ℕ) (r : Row) : Type 0 where
    pub of : PlacedRecord
    pub greatest : Greatest (of_tag r.tag l) of
    pub row : r ≡ shown_row of
    pub known : r.tag < d

  pub row_latest : (d : ℕ) (r : Row) → Memᴰ r (window_rows l d) → LatestOf d r
  unfolding window_rows
  row_latest d r i =
      let m = joined_members rows_of_tag r d i in
      go m.at m.below (tag_rows m.at) m.member
    where
      go : (tag : ℕ) → tag < d → {rows : List Row} → TagRows l tag rows → Memᴰ r rows → LatestOf d r
      go tag h (no_row e) j = absurd (Memᴰ.not-nil j)
      go tag h (one_row {x} g e) j =
          let q = Memᴰ.eq_of_singleton j in
          let z : r.tag ≡ tag = ap (λ (y : Row). y.tag) q ∙ e in
          record { of = x; greatest = rw z g; row = q; known = omega arith }

  -- ---- and a tag that has a record has a row
  pub record HasRow (d tag : ℕ) : Type 0 where
    pub of : PlacedRecord
    pub greatest : Greatest (of_tag tag l) of
    pub member : Memᴰ (shown_row of) (window_rows l d)

  pub latest_row : (d tag : ℕ) {x : PlacedRecord} → tag < d → Memᴰ x (of_tag tag l) → HasRow d tag
  unfolding window_rows
  latest_row d tag {x} h i = go (tag_rows tag) (λ r j. members_joined rows_of_tag r d tag h j)
    where
      go : {rows : List Row} → TagRows l tag rows → ((r : Row) → Memᴰ r rows → Memᴰ r (joined rows_of_tag d)) → HasRow d tag
      go (no_row e) k = absurd (Memᴰ.not-nil (rw e at i))
      go (one_row {x} g e) k = record { of = x; greatest = g; member = k (shown_row x) (Memᴰ.head refl) }

  -- ---- tags ascend: below d, each below those that follow
  pub record Ascends (d : ℕ) (rows : List Row) : Type 0 where
    pub ascending : Pairwise (λ x y. x < y) (map (λ r. r.tag) rows)
    pub below : All (λ n. n < d) (map (λ r. r.tag) rows)
    pub few : length rows ≤ d

  pub ascends : (d : ℕ) → Ascends d (window_rows l d)
  unfolding window_rows joined
  ascends zero = record { ascending = Pairwise.nil; below = nil; few = omega arith }
  ascends (suc d) = go (ascends d) (tag_rows d)
    where
      tag_of : Row → ℕ
      tag_of r = r.tag

      go : {rows : List Row} → Ascends d (window_rows l d) → TagRows l d rows → Ascends (suc d) (joined rows_of_tag d ++ rows)
      go a (no_row e) = rw (append-nil (joined rows_of_tag d))
          (record { ascending = a.ascending; below = all_map (λ n h. omega arith) a.below; few = omega (arith, a.few) })
      go a (one_row {x} g e) = record {
        ascending = rw (map-append (λ (r : Row). r.tag) (joined rows_of_tag d) (shown_row x ∷ []), e) (last_ascends a.ascending a.below);
        below = rw (map-append (λ (r : Row). r.tag) (joined rows_of_tag d) (shown_row x ∷ []), e)
            (all_append (all_map (λ n h. omega arith) a.below) (cons (omega arith) nil));
        few = simp length-append (omega (arith, a.few));
      }
