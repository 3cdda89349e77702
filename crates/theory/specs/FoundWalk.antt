-- The walks and searches that are found, as relations: a visit finds nothing, stops or goes deep; a path is at its top or goes a step up; a search below a
-- level is on the ground or goes down a page, and over all meets an empty register, ends on the top page, or goes below it. Relations and functions say the
-- same, so that what is found is shown by induction on it, and fuel never appears. A look-back that is answered is a search, a path and rows that fit (Looks).
use Rattle.std.proofs.Math.Path.{◌≡◌, refl}
use Rattle.std.specs.Prelude.{List, [], ◌∷◌, ◌++◌, Bool, true, false, cond, leb, eqb, ltb, length}
use Prim.Native.Nat.{ℕ, zero, suc, ◌-◌, ◌≤◌, ◌<◌, ◌+◌, ◌*◌}
use native.Mathlib.Omega.{arith}
use borrow.Author.Tests.{leb-true, leb-false, eqb-true, lt-leb, le-leb, ne_eqb, eqb-false, eq-eqb, ltb-false, le-ltb}
use Rattle.base.specs.Branch.{cond_all}
use Rattle.layout.specs.Fields.{closed_word, up_word, left_word, child_word}
use Rattle.layout.specs.Parts.{block_word}
use Rattle.layout.specs.Sizes.{page_len}
use Rattle.calls.specs.Calls.{Row}
use Rattle.calls.specs.Walk.{Reader, Finding, unsound, found, Walk, listed, rows_of, neighbour, visit, path, Pass, passing, look_up, descend, top_level}
use Rattle.calls.specs.Walk.{search, Looked, unsoundly, looked, within, onward, look}

-- the links of a block and the second of its closing, as a reader hands them out
module _ (R : Reader) (n : ℕ) where
  abbrev pub closed_of : ℕ
  closed_of = block_word (R.block n) closed_word

  abbrev pub up_of : ℕ
  up_of = block_word (R.block n) up_word

  abbrev pub left_of : ℕ
  left_of = block_word (R.block n) left_word

  abbrev pub child_of : ℕ
  child_of = block_word (R.block n) child_word

-- unsound, or found with P
pub data Outcome {A B : Type 0} (P : A → B → Type 0) : Finding A B → Type 0 where
  bad : Outcome P unsound
  good : {x : A} {y : B} → P x y → Outcome P (found x y)

-- what is found has P
pub outcome_found : {A B : Type 0} {P : A → B → Type 0} {w : Finding A B} {x : A} {y : B} → Outcome P w → w ≡ found x y → P x y
outcome_found bad e = absurd (let z : ◌≡◌ {A = ℕ} 0 1 = cc in omega arith)
outcome_found {x = x} {y} (good {x = x'} {y = y'} p) e =
    let i : x' ≡ x = cc in let j : y' ≡ y = cc in rw (← i, ← j) p

-- a block listed, then two walks
listed_outcome : {P Q S : List Row → List ℕ → Type 0} (n : ℕ) (r₀ : List Row) {v w : Walk}
    → ((r r' : List Row) (l l' : List ℕ) → P r l → Q r' l' → S (r₀ ++ (r ++ r')) (n ∷ (l ++ l')))
    → Outcome P v → Outcome Q w → Outcome S (listed n r₀ v w)
listed_outcome n r₀ h bad bad = bad
listed_outcome n r₀ h bad (good q) = bad
listed_outcome n r₀ h (good p) bad = bad
listed_outcome n r₀ h (good p) (good q) = good (h _ _ _ _ p q)

module _ (b t : ℕ) (R : Reader) where
  -- the rows of block n
  abbrev pub rows_in : ℕ → List Row
  rows_in n = rows_of b t (R.block n)

  -- A visit of n, strictly between lo and hi: there is no block, or it closed by t, or its child and its left are visited too.
  pub data Visit : ℕ → ℕ → ℕ → List Row → List ℕ → Type 0 where
    none : {lo hi : ℕ} → Visit lo hi 0 [] []
    stop : {lo hi n : ℕ} → lo < n → n < hi → closed_of R n ≤ t → Visit lo hi n [] (n ∷ [])
    deep : {lo hi n : ℕ} {r r' : List Row} {l l' : List ℕ} → lo < n → n < hi → t < closed_of R n
        → Visit n hi (child_of R n) r l → Visit lo n (left_of R n) r' l' → Visit lo hi n (rows_in n ++ (r ++ r')) (n ∷ (l ++ l'))

  -- A path from n: it is at 0, or the left neighbour is visited and the path goes on from the up.
  pub data Path : ℕ → List Row → List ℕ → Type 0 where
    top : Path 0 [] []
    step : {n : ℕ} {r r' : List Row} {l l' : List ℕ} → up_of R n < n
        → Visit (up_of R n) n (neighbour R n) r l → Path (up_of R n) r' l' → Path n (rows_in n ++ (r ++ r')) (n ∷ (l ++ l'))

  -- What the functions find is in the relation.
  pub visited : (fuel lo hi n : ℕ) → Outcome (Visit lo hi n) (visit b t R fuel lo hi n)
  unfolding visit
  visited zero lo hi n = bad
  visited (suc fuel) lo hi n =
      let P = Outcome (Visit lo hi n) in
      let v = visited fuel n hi (child_of R n) in
      let w = visited fuel lo n (left_of R n) in
      cond_all P (eqb n 0) (λ e. rw (eqb-true n 0 e) (good none))
      (λ e. cond_all P (leb n lo) (λ _. bad)
      (λ e₁. cond_all P (leb hi n) (λ _. bad)
      (λ e₂. cond_all P (leb (closed_of R n) t)
      (λ e₃. good (stop (leb-false n lo e₁) (leb-false hi n e₂) (leb-true _ t e₃)))
      (λ e₃. listed_outcome n (rows_in n) (λ r r' l l'. deep (leb-false n lo e₁) (leb-false hi n e₂) (leb-false _ t e₃)) v w))))

  pub pathed : (fuel n : ℕ) → Outcome (Path n) (path b t R fuel n)
  unfolding path
  pathed zero n = bad
  pathed (suc fuel) n =
      let P = Outcome (Path n) in
      let v = visited (suc n) (up_of R n) n (neighbour R n) in
      let w = pathed fuel (up_of R n) in
      cond_all P (eqb n 0) (λ e. rw (eqb-true n 0 e) (good top))
      (λ e. cond_all P (leb n (up_of R n)) (λ _. bad)
      (λ e₁. listed_outcome n (rows_in n) (λ r r' l l'. step (leb-false n (up_of R n) e₁)) v w))

  -- What is in the relation the functions find, with any fuel that is enough.
  pub visits : {lo hi n : ℕ} {r : List Row} {l : List ℕ} → Visit lo hi n r l → (fuel : ℕ) → hi - lo < fuel → visit b t R fuel lo hi n ≡ found r l
  unfolding visit
  visits v zero h = absurd (omega arith)
  visits none (suc fuel) h = refl
  visits (stop {lo} {hi} {n} p q c) (suc fuel) h =
      simp (ne_eqb n 0 (omega arith), lt-leb n lo p, lt-leb hi n q, le-leb _ t c)
  visits (deep {lo} {hi} {n} p q c v w) (suc fuel) h =
      simp (ne_eqb n 0 (omega arith), lt-leb n lo p, lt-leb hi n q, lt-leb _ t c, visits {lo = n} v fuel (omega arith), visits w fuel (omega arith))

  pub paths : {n : ℕ} {r : List Row} {l : List ℕ} → Path n r l → (fuel : ℕ) → n < fuel → path b t R fuel n ≡ found r l
  unfolding path
  paths p zero h = absurd (omega arith)
  paths top (suc fuel) h = refl
  paths (step {n} q v p) (suc fuel) h =
      simp (ne_eqb n 0 (omega arith), lt-leb n _ q, visits v (suc n) (omega arith), paths {n = up_of R n} p fuel (omega arith))

-- ---- the search
passing_outcome : {P Q : ℕ → List Pass → Type 0} (p : Pass) {x : Finding ℕ (List Pass)}
    → ((n : ℕ) (ps : List Pass) → P n ps → Q n (p ∷ ps)) → Outcome P x → Outcome Q (passing p x)
passing_outcome p h bad = bad
passing_outcome p h (good x) = good (h _ _ x)

module _ (t opened : ℕ) (R : Reader) where
  -- from entry e of level l down to block n
  pub data Descent : ℕ → ℕ → ℕ → List Pass → Type 0 where
    ground : {e : ℕ} → Descent 0 e (suc e) []
    down : {l e j n : ℕ} {ps : List Pass} → look_up t opened R l e ≡ suc j → Descent l (page_len * e + j) n ps
        → Descent (suc l) e n (record { level = l; number = e } ∷ ps)

  -- from the top page to block n, 0 if there is none
  pub data Search : ℕ → List Pass → Type 0 where
    empty : opened ≡ 0 → Search 0 []
    before : 0 < opened → look_up t opened R (top_level opened) 0 ≡ 0 → Search 0 (record { level = top_level opened; number = 0 } ∷ [])
    onto : {j n : ℕ} {ps : List Pass} → 0 < opened → look_up t opened R (top_level opened) 0 ≡ suc j → Descent (top_level opened) j n ps
        → Search n (record { level = top_level opened; number = 0 } ∷ ps)

  -- What the functions find is in the relation.
  descended : (l e : ℕ) → Outcome (Descent l e) (descend t opened R l e)
  unfolding descend
  descended zero e = good ground
  descended (suc l) e =
      let k = look_up t opened R l e in
      cond_all (Outcome (Descent (suc l) e)) (eqb k 0) (λ i. bad)
      (λ i.
      let z = eqb-false k 0 i in
      passing_outcome _ (λ n ps. down {j = k - 1} (omega arith)) (descended l (page_len * e + (k - 1))))

  pub searched : Outcome Search (search t opened R)
  unfolding search
  searched =
      let l = top_level opened in
      let k = look_up t opened R l 0 in
      cond_all (Outcome Search) (eqb opened 0) (λ i. good (empty (eqb-true opened 0 i)))
      (λ i.
      let p : 0 < opened = omega (arith, eqb-false opened 0 i) in
      cond_all (λ x. Outcome Search (passing (record { level = l; number = 0 }) x)) (eqb k 0)
      (λ i₁. good (before p (eqb-true k 0 i₁)))
      (λ i₁.
      let z = eqb-false k 0 i₁ in
      passing_outcome _ (λ n ps. onto {j = k - 1} p (omega arith)) (descended l (k - 1))))

  -- What is in the relation the functions find.
  descends : {l e n : ℕ} {ps : List Pass} → Descent l e n ps → descend t opened R l e ≡ found n ps
  unfolding descend
  descends ground = refl
  descends (down {j = j} h d) = let z : suc j - 1 ≡ j = omega arith in rw (h, ne_eqb (suc j) 0 (omega arith), z, descends d)

  pub searches : {n : ℕ} {ps : List Pass} → Search n ps → search t opened R ≡ found n ps
  unfolding search
  searches (empty e) = rw (eq-eqb opened 0 e)
  searches (before p h) = rw (ne_eqb opened 0 (omega arith), h)
  searches (onto {j} p h d) =
      let z : suc j - 1 ≡ j = omega arith in
      rw (ne_eqb opened 0 (omega arith), h, ne_eqb (suc j) 0 (omega arith), z, descends d)

-- ---- the look-back: the search found a block, the path from it found rows and list, and the rows are at most D
pub record Looks (b d opened t : ℕ) (R : Reader) (r : List Row) (l : List ℕ) (ps : List Pass) : Type 0 where
  pub block : ℕ
  pub searched : Search t opened R block ps
  pub walked : Path b t R block r l
  pub fits : length r ≤ d

module _ {b d opened t : ℕ} {R : Reader} {r : List Row} {l : List ℕ} {ps : List Pass} where
  pub looks : Looks b d opened t R r l ps → look b d opened t R ≡ looked r l ps
  unfolding look
  looks h = rw (searches t opened R h.searched, paths b t R h.walked (suc h.block) (omega arith), le-ltb d (length r) h.fits)

  pub look_parts : look b d opened t R ≡ looked r l ps → Looks b d opened t R r l ps
  unfolding look
  look_parts e = from_search (search t opened R) refl e
    where
      never : {A : Type 0} → ◌≡◌ {A = Looked} unsoundly (looked r l ps) → A
      never q = absurd (let z : ◌≡◌ {A = ℕ} 0 1 = cc in omega arith)

      from_test : (n : ℕ) (ps' : List Pass) (r' : List Row) (l' : List ℕ) → search t opened R ≡ found n ps' → path b t R (suc n) n ≡ found r' l'
          → (c : Bool) → ltb d (length r') ≡ c → cond c unsoundly (looked r' l' ps') ≡ looked r l ps → Looks b d opened t R r l ps
      from_test n ps' r' l' s p true c q = never q
      from_test n ps' r' l' s p false c q =
          let i : r' ≡ r = cc in
          record {
            block = n;
            searched = outcome_found (searched t opened R) (cc);
            walked = outcome_found (pathed b t R (suc n) n) (cc);
            fits = rw i at (ltb-false d (length r') c);
          }

      from_path : (n : ℕ) (ps' : List Pass) → search t opened R ≡ found n ps'
          → (w : Walk) → path b t R (suc n) n ≡ w → within d ps' w ≡ looked r l ps → Looks b d opened t R r l ps
      from_path n ps' s unsound p q = never q
      from_path n ps' s (found r' l') p q = from_test n ps' r' l' s p (ltb d (length r')) refl q

      from_search : (x : Finding ℕ (List Pass)) → search t opened R ≡ x
          → onward (λ n ps. within d ps (path b t R (suc n) n)) x ≡ looked r l ps → Looks b d opened t R r l ps
      from_search unsound s q = never q
      from_search (found n ps') s q = from_path n ps' s (path b t R (suc n) n) refl q
