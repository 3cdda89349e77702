-- The log as a function of the second and the tag, and the records that tell it at every second: each that stands is the log's (sound), the
-- log has no other (whole), and no tag stands twice (once). A record that begins or ends tells the log so changed; one that moves tells the
-- same log.
use Rattle.std.specs.Prelude.{◌≡◌, refl, ◌≢◌, cond, ◌&&◌, ℕ, ◌≤◌, ◌<◌, eqb, leb}
use Rattle.std.proofs.Common.{sym, ap, ◌∙◌, arith, eqb-true, leb-true, leb-false}
use Rattle.std.proofs.lemmas.Bool.{eqb-false}
use Rattle.base.specs.Branch.{by_test, cmp?}
use Rattle.layout.specs.declared.payload.Payload.{Payload}
use Rattle.layout.specs.Sizes.{OPEN}
use Rattle.theory.specs.Records.{Record, Records, Stands, ended_at, place?, PutAt, Emptied}

-- a log for each second and tag: what it tells of the condition, if it stands
pub data Telling : Type 0 where
  none : Telling
  some : Payload → Telling

abbrev pub Timeline : Type 0
Timeline = ℕ → ℕ → Telling

-- from second s on this is told of the tag
abbrev pub logged : ℕ → ℕ → Telling → Timeline → Timeline
logged s g x l t h = cond (leb s t && eqb g h) x (l t h)

pub record Told (f : Records) (log : Timeline) : Type 0 where
  pub sound : (t n k : ℕ) → t < OPEN → Stands t (f n k) → log t (f n k).tag ≡ some (f n k).payload
  pub whole : (t tag : ℕ) (x : Payload) → t < OPEN → log t tag ≡ some x → (n : ℕ) × (k : ℕ) × Stands t (f n k) × ((f n k).tag ≡ tag)
  pub once : (t n k m j : ℕ) → t < OPEN → Stands t (f n k) → Stands t (f m j) → (f n k).tag ≡ (f m j).tag → (m ≡ n) × (j ≡ k)

-- the two cases of a log after one more change
pub logged? : (s tag : ℕ) (x : Telling) (log : Timeline) (t g : ℕ) (P : Telling → Type 0) → (s ≤ t → tag ≡ g → P x)
    → ((s ≤ t → tag ≢ g) → P (log t g))
    → P (logged s tag x log t g)
logged? s tag x log t g P a b =
    by_test (leb s t) (λ c. P (cond (c && eqb tag g) x (log t g)))
    (λ p. by_test (eqb tag g) (λ c. P (cond c x (log t g))) (λ q. a (leb-true s t p) (eqb-true tag g q)) (λ q. b (λ _. eqb-false tag g q)))
    (λ p. b (λ z. absurd (omega (arith, leb-false s t p))))

pub not_some : {A : Type 0} {r : Telling} {x : Payload} → r ≡ none → r ≡ some x → A
not_some p q = let z : ◌≡◌ {A = ℕ} 0 1 = cc in absurd (omega arith)

-- ---- a record begins at second now, in a slot where nothing stood, under a tag of which nothing is told from then on
module _ {f g : Records} {log : Timeline} {n k now : ℕ} {r : Record} (i : Told f log) (e : PutAt f g n k r) (from : r.from ≡ now) (to : r.to ≡ OPEN)
    (unused : (f n k).to ≡ 0) (free : (t : ℕ) → now ≤ t → t < OPEN → log t r.tag ≡ none) where
  put_sound : (t m j : ℕ) → t < OPEN → Stands t (g m j) → logged now r.tag (some r.payload) log t (g m j).tag ≡ some (g m j).payload
  put_sound t m j o w = place? n k m j
      (λ x y.
      let z : g m j ≡ r = rw (x, y) e.here in
      rw z (
      let w' : Stands t r = rw z at w in
      logged? now r.tag (some r.payload) log t r.tag (λ v. v ≡ some r.payload) (λ _ _. refl) (λ c. absurd (c (omega arith) refl))))
      (λ d.
      let z = e.other m j d in
      rw z (
      let h = i.sound t m j o (rw z at w) in
      logged? now r.tag (some r.payload) log t (f m j).tag (λ v. v ≡ some (f m j).payload)
      (λ p q. not_some (free t p o) (ap (log t) q ∙ h)) (λ _. h)))

  put_whole : (t tag : ℕ) (x : Payload) → t < OPEN → logged now r.tag (some r.payload) log t tag ≡ some x
      → (m : ℕ) × (j : ℕ) × Stands t (g m j) × ((g m j).tag ≡ tag)
  put_whole t tag x o =
      logged? now r.tag (some r.payload) log t tag (λ v. v ≡ some x → (m : ℕ) × (j : ℕ) × Stands t (g m j) × ((g m j).tag ≡ tag))
      (λ p q _. (n, k, rw e.here (record { begun = omega arith; lasts = omega arith }), rw e.here q))
      (λ _ q.
      let w = i.whole t tag x o q in
      let z = e.other w.0 w.1 (λ c. let y : (f w.0 w.1).to ≡ 0 = rw (c.0, c.1) unused in absurd (omega (arith, w.2.lasts))) in
      (w.0, w.1, rw z w.2, rw z w.3))

  -- what has this tag and stands is the new one
  put_only : (t m j : ℕ) → t < OPEN → now ≤ t → Stands t (g m j) → r.tag ≡ (g m j).tag → (m ≡ n) × (j ≡ k)
  put_only t m j o p w q = place? n k m j (λ x y. (x, y))
      (λ d. let z = e.other m j d in not_some (free t p o) (ap (log t) (q ∙ ap (λ (y : Record). y.tag) z) ∙ i.sound t m j o (rw z at w)))

  put_once : (t m j m' j' : ℕ) → t < OPEN → Stands t (g m j) → Stands t (g m' j') → (g m j).tag ≡ (g m' j').tag → (m' ≡ m) × (j' ≡ j)
  put_once t m j m' j' o w w' q = place? n k m j
      (λ x y.
      let z : g m j ≡ r = rw (x, y) e.here in
      let u : Stands t r = rw z at w in
      let v = put_only t m' j' o (omega arith) w' (rw (← z) q) in
      (v.0 ∙ sym x, v.1 ∙ sym y))
      (λ d. place? n k m' j'
      (λ x y.
      let z : g m' j' ≡ r = rw (x, y) e.here in
      let u : Stands t r = rw z at w' in
      let v = put_only t m j o (omega arith) w (rw (← z) (sym q)) in
      (x ∙ sym v.0, y ∙ sym v.1))
      (λ d'.
      let z = e.other m j d in
      let z' = e.other m' j' d' in
      i.once t m j m' j' o (rw z at w) (rw z' at w') (rw (z, z') at q)))

  pub told_put : Told g (logged now r.tag (some r.payload) log)
  told_put = record { sound = put_sound; whole = put_whole; once = put_once }

-- ---- a record that stands ends at second now
module _ {f g : Records} {log : Timeline} {n k now : ℕ} (i : Told f log) (e : PutAt f g n k (ended_at now (f n k))) (from : (f n k).from ≤ now)
    (to : (f n k).to ≡ OPEN) (ends : now < OPEN) where
  -- what stands stood, and not in the slot from now on
  stood : (t m j : ℕ) → Stands t (g m j)
      → Stands t (f m j) × ((g m j).tag ≡ (f m j).tag) × ((g m j).payload ≡ (f m j).payload) × (now ≤ t → (m ≡ n) × (j ≡ k) → ⊥)
  stood t m j w = place? n k m j
      (λ x y.
      let z : g m j ≡ ended_at now (f n k) = rw (x, y) e.here in
      let u : Stands t (ended_at now (f n k)) = rw z at w in
      (rw (x, y) (record { begun = u.begun; lasts = omega (arith, u.lasts) }), rw (z, x, y), rw (z, x, y), λ p _. omega (arith, u.lasts)))
      (λ d. let z = e.other m j d in (rw z at w, rw z, rw z, λ _ q. d q))

  end_sound : (t m j : ℕ) → t < OPEN → Stands t (g m j) → logged now (f n k).tag none log t (g m j).tag ≡ some (g m j).payload
  end_sound t m j o w =
      let u = stood t m j w in
      let h = i.sound t m j o u.0 in
      rw (u.1, u.2) (logged? now (f n k).tag none log t (f m j).tag (λ v. v ≡ some (f m j).payload)
      (λ p q. absurd (u.3 p (i.once t n k m j o (record { begun = omega arith; lasts = omega arith }) u.0 q)))
      (λ _. h))

  end_whole : (t tag : ℕ) (x : Payload) → t < OPEN → logged now (f n k).tag none log t tag ≡ some x → (m : ℕ) × (j : ℕ) × Stands t (g m j) × ((g m j).tag ≡ tag)
  end_whole t tag x o =
      logged? now (f n k).tag none log t tag (λ v. v ≡ some x → (m : ℕ) × (j : ℕ) × Stands t (g m j) × ((g m j).tag ≡ tag))
      (λ _ _ q. not_some refl q)
      (λ d q.
      let w = i.whole t tag x o q in
      place? n k w.0 w.1
      (λ y z.
      let same_tag : (f n k).tag ≡ tag = rw (y, z) at w.3 in
      let stands : Stands t (f n k) = rw (y, z) at w.2 in
      cmp? t now
      (λ before. (n, k, rw e.here (record { begun = stands.begun; lasts = before }), rw e.here same_tag))
      (λ at. absurd (d (omega arith) same_tag))
      (λ after. absurd (d (omega arith) same_tag)))
      (λ y. let z = e.other w.0 w.1 y in (w.0, w.1, rw z w.2, rw z w.3)))

  pub told_end : Told g (logged now (f n k).tag none log)
  told_end = record {
    sound = end_sound;
    whole = end_whole;
    once = λ t m j m' j' o w w' q.
        let u = stood t m j w in
        let u' = stood t m' j' w' in
        i.once t m j m' j' o u.0 u'.0 (sym u.1 ∙ q ∙ u'.1);
  }

-- logs alike at every second are told alike
pub told_alike : {f : Records} {log log' : Timeline} → ((t tag : ℕ) → t < OPEN → log t tag ≡ log' t tag) → Told f log → Told f log'
told_alike h i = record {
  sound = λ t n k o w. sym (h t _ o) ∙ i.sound t n k o w;
  whole = λ t tag x o q. i.whole t tag x o (h t tag o ∙ q);
  once = i.once;
}

-- ---- a record that stands ends at second now, and begins anew elsewhere: no second tells
pub moved_log : {f : Records} {log : Timeline} (x k : ℕ) {now : ℕ} → Told f log → (f x k).from ≤ now → (f x k).to ≡ OPEN → now < OPEN → (t tag : ℕ) → t < OPEN
    → logged now (f x k).tag (some (f x k).payload) (logged now (f x k).tag none log) t tag ≡ log t tag
moved_log {f} {log} x k {now} i from to ends t tag o =
    let g = (f x k).tag in
    logged? now g (some (f x k).payload) (logged now g none log) t tag (λ v. v ≡ log t tag)
    (λ m q. sym (ap (log t) (sym q) ∙ i.sound t x k o (record { begun = omega arith; lasts = omega arith })))
    (λ d. logged? now g none log t tag (λ v. v ≡ log t tag) (λ m q. absurd (d m q)) (λ _. refl))

-- ---- a block that never had a record may be emptied
pub told_open : {f g : Records} {log : Timeline} {n : ℕ} → Told f log → Emptied f g n → ((k : ℕ) → (f n k).to ≡ 0) → Told g log
told_open {f} {g} {n = n} i m z = record {
  sound = λ t x k o w. let q = m.other x k (live x k w) in rw q (i.sound t x k o (rw q at w));
  whole = λ t tag x o q.
      let w = i.whole t tag x o q in
      let e = m.other w.0 w.1 (λ c. let y : (f w.0 w.1).to ≡ 0 = rw c (z w.1) in absurd (omega (arith, w.2.lasts))) in
      (w.0, w.1, rw e w.2, rw e w.3);
  once = λ t x k y j o a b q.
      let e = m.other x k (live x k a) in
      let e' = m.other y j (live y j b) in
      i.once t x k y j o (rw e at a) (rw e' at b) (rw (e, e') at q);
}
  where
    live : {t : ℕ} (x k : ℕ) → Stands t (g x k) → x ≢ n
    live x k w c = let y : (g x k).to ≡ 0 = rw c (m.here k) in absurd (omega (arith, w.lasts))
