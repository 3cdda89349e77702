-- RECORDS THAT A RANGE OF SECONDS READS, whatever they are: those that pass a test, which of them stood in the range, and the latest of them
-- (any_records).
use Rattle.std.specs.Prelude.{◌≡◌, refl, ◌⊎◌, Bool, true, false, cond, ◌&&◌, ◌||◌, ℕ, ◌-◌, ◌≤◌, eqb, leb}
use Rattle.std.proofs.Common.{sym, ap, ◌∙◌, inl, inr}
use mathlib.Core.List.Memᴰ
use mathlib.Core.List.{List, [], ◌∷◌, Memᴰ}
use native.Mathlib.Omega.{arith}
use Rattle.std.proofs.Math.Dec.{ltb}
use borrow.Author.Tests.{eqb-true, leb-true, ltb-true, ltb-false, eq-eqb, le-leb, lt-ltb}
use Rattle.base.specs.Branch.{by_test, cond_all, lt?, and-true, and_is, or-false}
use Rattle.base.specs.Lists.{those}
use Rattle.calls.specs.Refusals.{any_of}
use Rattle.calls.specs.Range.{PlacedRecord, stood_in}
use Rattle.calls.specs.Window.{is_later, latest_from, latest, of_tag}
use Rattle.calls.specs.Claims.{AtSome, Greatest, AnyRecords}

-- ---- those that pass
module _ {A : Type 0} (p : A → Bool) where
  pub those_pass : {x : A} (l : List A) → Memᴰ x (those p l) → Memᴰ x l × (p x ≡ true)
  those_pass [] i = absurd (Memᴰ.not-nil i)
  those_pass {x} (y ∷ l) i = by_test (p y) (λ b. p y ≡ b → Memᴰ x (cond b (y ∷ those p l) (those p l)) → Memᴰ x (y ∷ l) × (p x ≡ true))
      (λ t e j. on e (λ k. those_pass l k) (Memᴰ.cases_cons j)) (λ t e j. further (those_pass l j)) refl i
    where
      further : Memᴰ x l × (p x ≡ true) → Memᴰ x (y ∷ l) × (p x ≡ true)
      further z = (Memᴰ.tail z.0, z.1)

      on : p y ≡ true → (Memᴰ x (those p l) → Memᴰ x l × (p x ≡ true)) → (x ≡ y) ⊎ Memᴰ x (those p l)
          → Memᴰ x (y ∷ l) × (p x ≡ true)
      on e later (inl q) = (Memᴰ.head q, ap p q ∙ e)
      on e later (inr j) = further (later j)

  pub pass_those : {x : A} (l : List A) → Memᴰ x l → p x ≡ true → Memᴰ x (those p l)
  pass_those [] i e = absurd (Memᴰ.not-nil i)
  pass_those {x} (y ∷ l) i e = on (λ j. pass_those l j e) (Memᴰ.cases_cons i)
    where
      on : (Memᴰ x l → Memᴰ x (those p l)) → (x ≡ y) ⊎ Memᴰ x l → Memᴰ x (cond (p y) (y ∷ those p l) (those p l))
      on later (inl q) = rw (sym (ap p q) ∙ e) (Memᴰ.head q)
      on later (inr j) = cond_all (λ m. Memᴰ x m) (p y) (λ t. Memᴰ.tail (later j)) (λ t. later j)

  -- none of a list has what none of its members has
  pub none_of : (l : List A) → ((x : A) → Memᴰ x l → p x ≡ false) → any_of p l ≡ false
  none_of [] h = refl
  none_of (x ∷ l) h = rw (h x (Memᴰ.head refl)) (none_of l (λ y i. h y (Memᴰ.tail i)))

-- ---- a record stood in a range exactly if it stood at some second of it
module _ (first last : ℕ) (r : PlacedRecord) where
  pub stood_second : first ≤ last → stood_in first last r ≡ true → AtSome first last r
  unfolding stood_in
  stood_second o e =
      let x = and-true (leb r.from last && ltb first r.to) (ltb r.from r.to) e in
      let y = and-true (leb r.from last) (ltb first r.to) x.0 in
      let from = leb-true r.from last y.0 in
      let to = ltb-true first r.to y.1 in
      let some = ltb-true r.from r.to x.1 in
      lt? last r.to
      (λ h. record { second = last; inside = (o, omega arith); stands = (from, h) })
      (λ h. record { second = r.to - 1; inside = (omega arith, omega arith); stands = (omega arith, omega arith) })

  pub second_stood : AtSome first last r → stood_in first last r ≡ true
  unfolding stood_in
  second_stood s =
      let i = s.inside in
      let t = s.stands in
      and_is (and_is (le-leb r.from last (omega arith)) (lt-ltb first r.to (omega arith))) (lt-ltb r.from r.to (omega arith))

-- ---- the latest
-- y is no later than z
record NotAfter (y z : PlacedRecord) : Type 0 where
  from : y.from ≤ z.from
  place : y.from ≡ z.from → y.place ≤ z.place

self : (x : PlacedRecord) → NotAfter x x
self x = record { from = omega arith; place = λ e. omega arith }

on_to : {x y z : PlacedRecord} → NotAfter x y → NotAfter y z → NotAfter x z
on_to a b = record {
  from = omega (arith, a.from, b.from);
  place = λ e. omega (arith, a.place (omega (arith, a.from, b.from)), b.place (omega (arith, a.from, b.from)));
}

-- of two, the later one has none of them after it
module _ (x y : PlacedRecord) where
  abbrev later : PlacedRecord
  later = cond (is_later y x) y x

  is_later_lem : is_later y x ≡ true → NotAfter x y
  is_later_lem e = by_test (ltb x.from y.from) (λ b. ltb x.from y.from ≡ b → (b || (eqb x.from y.from && ltb x.place y.place)) ≡ true → NotAfter x y)
      (λ t q _. let h = ltb-true x.from y.from q in record { from = omega arith; place = λ z. absurd (omega arith) })
      (λ t q z.
      let w = and-true (eqb x.from y.from) (ltb x.place y.place) z in
      let f = eqb-true x.from y.from w.0 in
      let p = ltb-true x.place y.place w.1 in
      record { from = omega arith; place = λ _. omega arith })
      refl e

  not_later : is_later y x ≡ false → NotAfter y x
  not_later e =
      let z = or-false (ltb x.from y.from) (eqb x.from y.from && ltb x.place y.place) e in
      let h = ltb-false x.from y.from z.0 in
      record {
        from = h;
        place = λ q. by_test (ltb x.place y.place) (λ b. ltb x.place y.place ≡ b → y.place ≤ x.place)
            (λ t w. absurd (let u : (eqb x.from y.from && ltb x.place y.place) ≡ true = and_is (eq-eqb x.from y.from (sym q)) w in
            let v : ◌≡◌ {A = ℕ} 0 1 = cc in omega arith))
            (λ t w. ltb-false x.place y.place w) refl;
      }

  first_before : NotAfter x later
  first_before = cond_all (λ z. NotAfter x z) (is_later y x) is_later_lem (λ e. self x)

  second_before : NotAfter y later
  second_before = cond_all (λ z. NotAfter y z) (is_later y x) (λ e. self y) not_later

  one_of : {l : List PlacedRecord} {w : PlacedRecord} → (w ≡ later) ⊎ Memᴰ w l → Memᴰ w (x ∷ y ∷ l)
  one_of {l} {w} (inl e) = rw e (cond_all (λ z. Memᴰ z (x ∷ y ∷ l)) (is_later y x) (λ _. Memᴰ.tail (Memᴰ.head refl)) (λ _. Memᴰ.head refl))
  one_of (inr j) = Memᴰ.tail (Memᴰ.tail j)

record Last (l : List PlacedRecord) (x : PlacedRecord) : Type 0 where
  member : Memᴰ x l
  others : (y : PlacedRecord) → Memᴰ y l → NotAfter y x

last_from : (x : PlacedRecord) (l : List PlacedRecord) → Last (x ∷ l) (latest_from x l)
last_from x [] = record { member = Memᴰ.head refl; others = λ y i. only y (Memᴰ.cases_cons i) }
  where
    only : (y : PlacedRecord) → (y ≡ x) ⊎ Memᴰ y [] → NotAfter y x
    only y (inl e) = rw e (self x)
    only y (inr j) = absurd (Memᴰ.not-nil j)
last_from x (y ∷ l) = go (last_from (later x y) l)
  where
    go : {z : PlacedRecord} → Last (later x y ∷ l) z → Last (x ∷ y ∷ l) z
    go {z} g = record { member = one_of x y (Memᴰ.cases_cons g.member); others = λ v i. which v (Memᴰ.cases_cons i) }
      where
        chosen : NotAfter (later x y) z
        chosen = g.others (later x y) (Memᴰ.head refl)

        rest : (v : PlacedRecord) → (v ≡ y) ⊎ Memᴰ v l → NotAfter v z
        rest v (inl e) = rw e (on_to (second_before x y) chosen)
        rest v (inr j) = g.others v (Memᴰ.tail j)

        which : (v : PlacedRecord) → (v ≡ x) ⊎ Memᴰ v (y ∷ l) → NotAfter v z
        which v (inl e) = rw e (on_to (first_before x y) chosen)
        which v (inr j) = rest v (Memᴰ.cases_cons j)

pub greatest_from : (x : PlacedRecord) (l : List PlacedRecord) → Greatest (x ∷ l) (latest_from x l)
greatest_from x l =
    let g = last_from x l in
    record { member = g.member; from = λ y i. (g.others y i).from; place = λ y i. (g.others y i).place }

latest_greatest : (l : List PlacedRecord) (x : PlacedRecord) → latest l ≡ x ∷ [] → Greatest l x
latest_greatest [] x e = absurd (let z : ◌≡◌ {A = ℕ} 0 1 = cc in omega arith)
latest_greatest (y ∷ l) x e = let z : latest_from y l ≡ x = cc in rw z at (greatest_from y l)

latest_none : (l : List PlacedRecord) → latest l ≡ [] → l ≡ []
latest_none [] e = refl
latest_none (y ∷ l) e = absurd (let z : ◌≡◌ {A = ℕ} 0 1 = cc in omega arith)

-- ANY RECORDS.
pub any_records : AnyRecords
any_records = record {
  stood = λ first last r o. (stood_second first last r o, second_stood first last r);
  greatest = latest_greatest;
  none = latest_none;
}

-- ---- of one tag
pub of-tag : {x : PlacedRecord} (tag : ℕ) (l : List PlacedRecord) → Memᴰ x (of_tag tag l) → Memᴰ x l × (x.tag ≡ tag)
of-tag {x} tag l i = let z = those_pass (λ r. eqb r.tag tag) l i in (z.0, eqb-true x.tag tag z.1)

pub tag_of : {x : PlacedRecord} (tag : ℕ) (l : List PlacedRecord) → Memᴰ x l → x.tag ≡ tag → Memᴰ x (of_tag tag l)
tag_of {x} tag l i e = pass_those (λ r. eqb r.tag tag) l i (eq-eqb x.tag tag e)
