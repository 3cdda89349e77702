-- The pages that a search passes: their levels fall, so each level is passed at most once, and their numbers are below 4,096, so none is OPEN. Hence a
-- view's three page words tell every pass (passed-pages) and count them (passes_counted). And the block found is one of the N (search_below).
use Rattle.std.specs.Prelude.{◌≡◌, refl, ◌≢◌, cond, eqb, length, get_or}
use Rattle.std.proofs.Common.{sym, ne_eqb}
use mathlib.Core.List.{List, [], ◌∷◌}
use Prim.Native.Nat.{ℕ, zero, suc, ◌+◌, ◌*◌, ◌-◌, ◌≤◌, ◌<◌, min}
use native.Mathlib.Omega.{arith}
use Rattle.base.specs.Branch.{by_test, eqb_same}
use Rattle.base.specs.Sums.{All, nil, cons, all_map, upto, upto_suc, upto_none}
use Rattle.layout.specs.Sizes.{OPEN, page_len}
use Rattle.calls.specs.Calls.{Row}
use Rattle.calls.specs.Walk.{Reader, Pass, entries, top_level, look_up, looked, look}
use Rattle.calls.specs.LookBack.{passed_on, view_of}
use Rattle.calls.specs.Claims.{passed_pages}
use Rattle.theory.specs.FoundWalk.{Descent, ground, down, Search, empty, before, onto, look_parts}
use Rattle.theory.specs.SearchLaws.{Last, nowhere, at, last_is, top_below}
use Rattle.theory.specs.Listed.{path_apart}

-- passes whose levels fall from below l on, and whose page numbers are below 4,096
pub data Falling : ℕ → List Pass → Type 0 where
  done : {l : ℕ} → Falling l []
  pass : {l : ℕ} {p : Pass} {ps : List Pass} → p.level < l → p.number < 4096 → Falling p.level ps → Falling l (p ∷ ps)

-- ---- a search's passes fall

module _ (t opened : ℕ) (R : Reader) where
  -- what a page gives is an entry of its level
  given_entry : (l e j : ℕ) → look_up t opened R l e ≡ suc j → page_len * e + j < entries opened l
  unfolding look_up
  given_entry l e j h = go (look_up t opened R l e) (last_is t (min page_len (entries opened l - page_len * e)) (R.page l e)) h
    where
      go : (k : ℕ) → Last t (min page_len (entries opened l - page_len * e)) (R.page l e) k → k ≡ suc j → page_len * e + j < entries opened l
      go zero (nowhere f) i = absurd (omega arith)
      go (suc k) (at p q f) i = omega arith

  descent_below : {l e n : ℕ} {ps : List Pass} → Descent t opened R l e n ps → e < entries opened l → n ≤ opened
  unfolding entries
  descent_below ground a = omega arith
  descent_below (down {l} {e} {j} h d) a = descent_below d (given_entry l e j h)

  -- the block found is one of the N
  pub search_below : {n : ℕ} {ps : List Pass} → Search t opened R n ps → n ≤ opened
  search_below (empty e) = omega arith
  search_below (before p h) = omega arith
  search_below (onto {j} p h d) = descent_below d (omega (arith, given_entry (top_level opened) 0 j h))

  module _ (few : opened ≤ 4096) where
    entries_few : (l : ℕ) → entries opened l ≤ 4096
    unfolding entries
    entries_few zero = few
    entries_few (suc l) = omega (arith, entries_few l)

    descent_falls : {l e n : ℕ} {ps : List Pass} → Descent t opened R l e n ps → e < entries opened l → Falling l ps
    descent_falls ground h = done
    descent_falls (down {l} {e} {j} i d) h =
        let low : l < suc l = omega arith in
        let small : e < 4096 = omega (arith, entries_few (suc l)) in
        pass low small (descent_falls d (given_entry l e j i))

    pub search_falls : {n : ℕ} {ps : List Pass} → Search t opened R n ps → Falling 3 ps
    search_falls (empty e) = done
    search_falls (before p h) = let small : 0 < 4096 = omega arith in pass (top_below opened) small done
    search_falls (onto {j} p h d) =
        let small : 0 < 4096 = omega arith in
        pass (top_below opened) small (descent_falls d (omega (arith, given_entry (top_level opened) 0 j h)))

-- ---- what falling passes tell

-- A level above all of them was not passed.
none_above : {l : ℕ} {ps : List Pass} → Falling l ps → (k : ℕ) → l ≤ k → passed_on k ps ≡ OPEN
none_above done k h = refl
none_above (pass {p = p} i c f) k h = rw (ne_eqb p.level k (omega arith)) (none_above f k (omega arith))

-- p, below level l, is what the passes ps tell of its level
pub record PassTold (l : ℕ) (ps : List Pass) (p : Pass) : Type 0 where
  pub low : p.level < l
  pub some : p.number ≢ OPEN
  pub told : passed_on p.level ps ≡ p.number

pub falling_told : {l : ℕ} {ps : List Pass} → Falling l ps → All (PassTold l ps) ps
falling_told done = nil
falling_told {l} (pass {p = p} {ps} i c f) =
    let some : p.number ≢ OPEN = omega arith in
    let here : PassTold l (p ∷ ps) p = record { low = i; some = some; told = rw (eqb_same p.level) } in
    cons here (all_map rest (falling_told f))
  where
    rest : (q : Pass) → PassTold p.level ps q → PassTold l (p ∷ ps) q
    rest q x =
        let low = x.low in
        record { low = omega arith; some = x.some; told = rw (ne_eqb p.level q.level (omega arith)) x.told }

-- 1 for a level that was passed
passed_level : List Pass → ℕ → ℕ
passed_level ps l = cond (eqb (passed_on l ps) OPEN) 0 1

-- Equal weights below k have equal sums.
upto_same : (v w : ℕ → ℕ) (k : ℕ) → ((m : ℕ) → m < k → v m ≡ w m) → upto v k ≡ upto w k
unfolding upto
upto_same v w zero h = refl
upto_same v w (suc k) h = omega (arith, upto_same v w k (λ m p. h m (omega arith)), h k (omega arith))

falling_counted : {l : ℕ} {ps : List Pass} → Falling l ps → upto (passed_level ps) l ≡ length ps
unfolding upto passed_level
falling_counted {l} done = sym (upto_none (passed_level []) 0 l (omega arith) (λ m i j. refl))
falling_counted {l} (pass {p = p} {ps} i c f) = omega (
  arith,
  upto_none (passed_level (p ∷ ps)) (suc p.level) l i (λ m j k. rw (ne_eqb p.level m (omega arith), none_above f m (omega arith))),
  upto_suc (passed_level (p ∷ ps)) p.level,
  here,
  upto_same (passed_level (p ∷ ps)) (passed_level ps) p.level (λ m j. rw (ne_eqb p.level m (omega arith))),
  falling_counted f,
)
  where
    here : passed_level (p ∷ ps) p.level ≡ 1
    here = rw (eqb_same p.level, ne_eqb p.number OPEN (omega arith))

-- ---- and so of an answered look-back

one_more : (p : ℕ) (l : List ℕ) → passed_pages (p ∷ l) ≡ passed_pages l + cond (eqb p OPEN) 0 1
one_more p l = by_test (eqb p OPEN) (λ c. cond c (passed_pages l) (passed_pages l + 1) ≡ passed_pages l + cond c 0 1) (λ e. omega arith) (λ e. refl)

module _ (b d opened t : ℕ) (R : Reader) (few : opened ≤ 4096) {r : List Row} {l : List ℕ} {ps : List Pass}
    (e : look b d opened t R ≡ looked r l ps) where
  look_falls : Falling 3 ps
  look_falls = search_falls t opened R few (look_parts e).searched

  pub passes_counted : passed_pages (view_of r l ps).pages ≡ length ps
  unfolding passed_level upto
  passes_counted = omega (
    arith,
    falling_counted look_falls,
    one_more (passed_on 0 ps) (passed_on 1 ps ∷ passed_on 2 ps ∷ []),
    one_more (passed_on 1 ps) (passed_on 2 ps ∷ []),
    one_more (passed_on 2 ps) [],
    upto_suc (passed_level ps) 2,
    upto_suc (passed_level ps) 1,
    upto_suc (passed_level ps) 0,
  )

  pub passed-pages : All (PassTold 3 ps) ps
  passed-pages = falling_told look_falls

-- The page words, by level.
pub page_word : (r : List Row) (l : List ℕ) (ps : List Pass) (k : ℕ) → k < 3 → get_or (view_of r l ps).pages k OPEN ≡ passed_on k ps
page_word r l ps zero h = refl
page_word r l ps (suc zero) h = refl
page_word r l ps (suc (suc zero)) h = refl
page_word r l ps (suc (suc (suc k))) h = absurd (omega arith)

-- An answered look-back gives at most D rows and lists at most N blocks, so its answer fits its buffers.
pub look_fits : (b d N t : ℕ) (R : Reader) (r : List Row) (l : List ℕ) (ps : List Pass) → look b d N t R ≡ looked r l ps
    → (length r ≤ d) × (length l ≤ N)
look_fits b d N t R r l ps e =
    let x = look_parts e in
    (x.fits, omega (arith, (path_apart b t R x.walked).short, search_below t N R x.searched))
