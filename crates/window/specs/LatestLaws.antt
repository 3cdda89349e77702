-- The latest of a list with one record more, whose place is the greatest: by the place that the array keeps. And a tag of D or more in such a list.
use Rattle.std.specs.Prelude.{◌≡◌, ◌≢◌, Bool, true, false, ◌||◌, ℕ, ◌<◌, leb}
use Rattle.std.proofs.Math.Path.{refl, ap}
use Rattle.std.proofs.Common.{sym, ◌∙◌, arith}
use Rattle.std.proofs.Math.Bool.{cond}
use mathlib.Core.List.{List, [], ◌∷◌, ◌++◌, map}
use Rattle.std.proofs.Math.Dec.{eqb}
use borrow.Author.Tests.{eq-eqb, ne_eqb, lt-ltb, le-ltb, le-leb, lt-leb}
use Rattle.base.specs.Branch.{by_test, cond_all, cmp?, or-false}
use Rattle.base.specs.ListLaws.{those_more, those_less, those_all}
use Rattle.base.specs.Sums.{All, nil, cons}
use Rattle.layout.specs.declared.settings.Settings.{Settings}
use Rattle.calls.specs.Walk.{Reader}
use Rattle.calls.specs.Refusals.{any_of}
use Rattle.calls.specs.Range.{PlacedRecord}
use Rattle.calls.specs.Window.{is_later, latest_from, latest, of_tag, shown_row}
use Rattle.window.specs.Noted.{Met, place_in, latest_place, Named, later_place, row_at}

-- ---- the latest
-- against a smaller place the later `from` decides, and the same `from` is later
later_from : (r x : PlacedRecord) → x.place < r.place → is_later r x ≡ leb x.from r.from
later_from r x h = cmp? x.from r.from
    (λ a. rw (lt-ltb x.from r.from a, le-leb x.from r.from (omega arith)))
    (λ a. rw (le-ltb x.from r.from (omega arith), eq-eqb x.from r.from a, lt-ltb x.place r.place h, le-leb x.from r.from (omega arith)))
    (λ a. rw (le-ltb x.from r.from (omega arith), ne_eqb x.from r.from (λ e. omega arith), lt-leb x.from r.from a))

latest_one : (x : PlacedRecord) (l : List PlacedRecord) (r : PlacedRecord)
    → latest_from x (l ++ (r ∷ [])) ≡ cond (is_later r (latest_from x l)) r (latest_from x l)
latest_one x [] r = refl
latest_one x (y ∷ l) r = latest_one (cond (is_later y x) y x) l r

-- it is one of them
latest_has : (P : PlacedRecord → Type 0) {x : PlacedRecord} {l : List PlacedRecord} → P x → All P l → P (latest_from x l)
latest_has P p nil = p
latest_has P {x} p (cons {x = y} q a) = latest_has P {x = cond (is_later y x) y x} (cond_all P (is_later y x) (λ e. q) (λ e. p)) a

module _ {s : Settings} {R : Reader} {most : ℕ} where
  -- what is known of the latest
  latest_met : {x : PlacedRecord} {l : List PlacedRecord} → All (Met s R most) (x ∷ l) → Met s R most (latest_from x l)
  latest_met (cons p a) = latest_has (Met s R most) p a

  -- one record more, of a greater place
  place_more : (l : List PlacedRecord) (r : PlacedRecord) → All (Met s R most) l → most < r.place
      → place_in (latest (l ++ (r ∷ []))) ≡ later_place s R (place_in (latest l)) r.place r.from
  unfolding later_place
  place_more [] r a h = refl
  place_more (x ∷ l) r a h =
      let z = latest_from x l in
      let m = latest_met a in
      rw (latest_one x l r, later_from r z (omega (arith, m.high)), ne_eqb z.place 0 (λ e. omega (arith, m.low)), m.is)
      (by_test (leb z.from r.from) (λ t. (cond t r z).place ≡ cond t r.place z.place) (λ e. refl) (λ e. refl))

  -- a place that the array keeps is 0 or names a record,
  place_named : (l : List PlacedRecord) → All (Met s R most) l → Named s (place_in (latest l))
  place_named [] a = record { block = λ h. absurd (omega arith) }
  place_named (x ∷ l) a = record { block = λ h. (latest_met a).numbered }

  -- whose row is that of the latest
  place_row : (l : List PlacedRecord) → All (Met s R most) l → row_at s R (place_in (latest l)) ≡ map shown_row (latest l)
  unfolding row_at
  place_row [] a = refl
  place_row (x ∷ l) a =
      let m = latest_met a in
      rw (ne_eqb (latest_from x l).place 0 (λ e. omega (arith, m.low)), m.is)

  -- ---- the same of one tag
  module _ {l : List PlacedRecord} (met : All (Met s R most) l) where
    pub tag_own : (r : PlacedRecord) → most < r.place → latest_place (l ++ (r ∷ [])) r.tag ≡ later_place s R (latest_place l r.tag) r.place r.from
    unfolding latest_place
    tag_own r h =
        ap (λ (m : List PlacedRecord). place_in (latest m)) (those_more (λ x. eqb x.tag r.tag) l (eq-eqb r.tag r.tag refl))
        ∙ place_more (of_tag r.tag l) r (those_all (λ x. eqb x.tag r.tag) met) h

    pub tag_named : (tag : ℕ) → Named s (latest_place l tag)
    unfolding latest_place
    tag_named tag = place_named (of_tag tag l) (those_all (λ x. eqb x.tag tag) met)

    pub tag_row : (tag : ℕ) → row_at s R (latest_place l tag) ≡ map shown_row (latest (of_tag tag l))
    unfolding latest_place
    tag_row tag = place_row (of_tag tag l) (those_all (λ x. eqb x.tag tag) met)

pub tag_other : (l : List PlacedRecord) (r : PlacedRecord) (tag : ℕ) → tag ≢ r.tag → latest_place l tag ≡ latest_place (l ++ (r ∷ [])) tag
unfolding latest_place
tag_other l r tag h =
    ap (λ (m : List PlacedRecord). place_in (latest m)) (sym (those_less (λ x. eqb x.tag tag) l (ne_eqb r.tag tag (λ e. h (sym e)))))

-- ---- any of them
module _ {A : Type 0} (p : A → Bool) where
  pub any_left : (l m : List A) → any_of p l ≡ true → any_of p (l ++ m) ≡ true
  any_left [] m e = absurd (let z : ◌≡◌ {A = ℕ} 0 1 = cc in omega arith)
  any_left (x ∷ l) m e = by_test (p x) (λ t. (t || any_of p l) ≡ true → (t || any_of p (l ++ m)) ≡ true) (λ g f. refl) (λ g f. any_left l m f) e

  pub any_last : (l : List A) {x : A} → p x ≡ true → any_of p (l ++ (x ∷ [])) ≡ true
  any_last [] e = rw e
  any_last (y ∷ l) {x} e = by_test (p y) (λ t. (t || any_of p (l ++ (x ∷ []))) ≡ true) (λ g. refl) (λ g. any_last l e)

  pub any_none : (l : List A) {x : A} → any_of p l ≡ false → p x ≡ false → any_of p (l ++ (x ∷ [])) ≡ false
  any_none [] e f = rw f
  any_none (y ∷ l) e f = let g = or-false (p y) (any_of p l) e in rw g.0 (any_none l g.1 f)
