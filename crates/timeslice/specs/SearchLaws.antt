-- The search's answers: each way out of the code is the search as it is defined; a page that is read lies in its level, and the block found is one of those
-- opened.
use Rattle.std.specs.Prelude.{◌≡◌, refl, cond, List, [], ◌∷◌, eqb, leb, length, get_or, set, Option, None, Some, MatchOption, Result, Ok, Err}
use Rattle.std.proofs.Common.{sym, ◌∙◌, take, length-take}
use Rattle.std.proofs.lemmas.List.{get_or-take}
use Rattle.std.proofs.Math.Path.{ap}
use Prim.Native.Nat.{ℕ, zero, suc, ◌+◌, ◌*◌, ◌-◌, ◌≤◌, ◌<◌, min}
use Rattle.std.proofs.Math.Numerals.{add-one}
use Rattle.std.specs.Int.{div_ceil}
use Rattle.std.specs.Result.{result_ok}
use native.Mathlib.Omega.{arith}
use borrow.Author.Tests.{eq-eqb, ne_eqb, eqb-false, le-leb, lt-leb}
use Rattle.base.specs.Branch.{cond_all, lt?}
use Rattle.layout.specs.Sizes.{OPEN, page_len, level_len, dir_start}
use Rattle.layout.specs.SettingsLaws.{layout_least}
use Rattle.layout.specs.OnWords.{held_fits}
use Rattle.layout.specs.PartsLaws.{LevelPart, PagePart}
use Rattle.calls.specs.Walk.{Reader, Finding, unsound, found, Pass, last_up_to, entries, top_level, passing, look_up, descend, search}
use Rattle.calls.specs.LookBack.{reader}
use Rattle.queries.specs.declared.unsound.Unsound.{Unsound}
use Rattle.timeslice.specs.declared.past.Past.{Past}
use Rattle.timeslice.specs.declared.index.PathStart.{PathStart}
use Rattle.timeslice.specs.Reading.{reader_of}
use Rattle.timeslice.specs.Searching.{page_told, pages_of, block_told, path_start, searched_of, pass_over, entry_of, looked_up, descended, searched, OnPage, OnEntry}

-- ---- a page, from its last entry on
module _ (t : ℕ) (page : List ℕ) where
  -- No entry from i on is up to t: those before it decide.
  pub last_before : (k i : ℕ) → i ≤ k → ((j : ℕ) → i ≤ j → j < k → t < get_or page j 0) → last_up_to t k page ≡ last_up_to t i page
  unfolding last_up_to
  last_before zero i h f = let e : i ≡ 0 = omega arith in rw e
  last_before (suc k) i h f =
      lt? k i
      (λ l. let e : i ≡ suc k = omega arith in rw e)
      (λ l. rw (lt-leb (get_or page k 0) t (f k l (omega arith))) (last_before k i l (λ j a b. f j a (omega arith))))

  pub last_none : last_up_to t 0 page ≡ 0
  unfolding last_up_to
  last_none = refl

  pub last_here : (i : ℕ) → get_or page i 0 ≤ t → last_up_to t (suc i) page ≡ suc i
  unfolding last_up_to
  last_here i h = rw (le-leb (get_or page i 0) t h)

  last_take : (n k : ℕ) → k ≤ n → last_up_to t k (take n page) ≡ last_up_to t k page
  unfolding last_up_to
  last_take n zero h = refl
  last_take n (suc k) h = rw (get_or-take n page k 0 h, last_take n k (omega arith))

  last_most : (k : ℕ) → last_up_to t k page ≤ k
  unfolding last_up_to
  last_most zero = omega arith
  last_most (suc k) = cond_all (λ x. x ≤ suc k) (leb (get_or page k 0) t) (λ e. omega arith) (λ e. omega (arith, last_most k))

-- what a search from the end finds
pub last_is : (t : ℕ) (l : List ℕ) {x : Option ℕ}
    → MatchOption x ((j : ℕ) → j < length l → t < get_or l j 0)
    (λ i. (i < length l) × (get_or l i 0 ≤ t) × ((j : ℕ) → i < j → j < length l → t < get_or l j 0))
    → x ≡ entry_of (last_up_to t (length l) l)
last_is t l {x = None} f = rw (last_before t l (length l) 0 (omega arith) (λ j b d. f j d), last_none t l)
last_is t l {x = Some i} f = rw (last_before t l (length l) (suc i) (omega (arith, f.0)) (λ j b d. f.2 j (omega arith) d), last_here t l i f.1)

-- ---- the entries of a level
module _ (opened : ℕ) where
  pub entries_first : opened ≡ entries opened 0
  unfolding entries
  entries_first = refl

  pub entries_more : (l : ℕ) → div_ceil (entries opened l) 16 ≡ entries opened (l + 1)
  unfolding entries
  entries_more l = rw add-one (omega arith)

  -- The entries of a level fill it at most, for no more blocks than a store can have.
  pub entries_fit : opened ≤ 4096 → (l : ℕ) → l < 3 → entries opened l ≤ level_len l
  unfolding entries
  entries_fit few zero h = few
  entries_fit few (suc zero) h = omega arith
  entries_fit few (suc (suc zero)) h = omega arith
  entries_fit few (suc (suc (suc l))) h = absurd (omega arith)

  pub entries_most : (l : ℕ) → opened ≤ 4096 → entries opened l ≤ 4096
  unfolding entries
  entries_most zero few = few
  entries_most (suc l) few = omega (arith, entries_most l few)

  -- a page with an entry lies in its level
  page_fits : opened ≤ 4096 → (l e : ℕ) → l < 3 → page_len * e < entries opened l → page_len * e + page_len ≤ level_len l
  page_fits few zero e h p = omega (arith, entries_fit few 0 h)
  page_fits few (suc zero) e h p = omega (arith, entries_fit few 1 h)
  page_fits few (suc (suc l)) e h p = omega (arith, entries_fit few (suc (suc l)) h)

  pub entries_some : 0 < opened → (l : ℕ) → 0 < entries opened l
  unfolding entries
  entries_some h zero = h
  entries_some h (suc l) = omega (arith, entries_some h l)

  -- an entry has a page below it
  below_some : (l e : ℕ) → e < entries opened (suc l) → page_len * e < entries opened l
  unfolding entries
  below_some l e h = omega arith

  -- ---- the top level
  pub top_ground : {n : ℕ} → n ≡ entries opened 0 → n ≤ 16 → 0 ≡ top_level opened
  unfolding top_level
  top_ground e h = rw (le-leb _ 16 (rw e at h))

  pub top_first : {n m : ℕ} → n ≡ entries opened 0 → 16 < n → m ≡ entries opened 1 → m ≤ 16 → 1 ≡ top_level opened
  unfolding top_level
  top_first e h e' h' = rw (lt-leb _ 16 (rw e at h), le-leb _ 16 (rw e' at h'))

  pub top_second : {n m : ℕ} → n ≡ entries opened 0 → 16 < n → m ≡ entries opened 1 → 16 < m → 2 ≡ top_level opened
  unfolding top_level
  top_second e h e' h' = rw (lt-leb _ 16 (rw e at h), lt-leb _ 16 (rw e' at h'))

  pub top_below : top_level opened < 3
  unfolding top_level
  top_below = cond_all (λ l. l < 3) (leb (entries opened 0) page_len) (λ e. omega arith)
      (λ e. cond_all (λ l. l < 3) (leb (entries opened 1) page_len) (λ e₁. omega arith) (λ e₁. omega arith))

-- ---- the definitions over what a look-back reads
module _ (p : Past) where
  abbrev looks : ℕ → ℕ → ℕ
  looks l e = look_up p.second p.opened.head.cursor.opened (reader_of p) l e

  abbrev downs : ℕ → ℕ → Finding ℕ (List Pass)
  downs l e = descend p.second p.opened.head.cursor.opened (reader_of p) l e

  abbrev all : Finding ℕ (List Pass)
  all = search p.second p.opened.head.cursor.opened (reader_of p)

-- ---- what a store that was opened has
pub few_opened : (p : Past) → p.opened.head.cursor.opened ≤ 4096
few_opened p = omega (arith, p.opened.readable.sound.opened, p.opened.readable.sound.within.blocks)

pub long_enough : (p : Past) → dir_start ≤ length p.opened.store.now
long_enough p = omega (arith, (held_fits p.opened.readable.held).long, layout_least p.opened.head.settings)

module _ {p : Past} {l e : ℕ} (on : OnPage p l e) where
  -- a page that is read lies in the level that is handed out,
  pub page_in : {level : List ℕ} → LevelPart p.opened.store.now l level → page_len * e + page_len ≤ length level
  page_in part = omega (arith, part.long, page_fits p.opened.head.cursor.opened (few_opened p) l e on.three on.some)

  -- and has no more entries than words
  pub count_in : {page : List ℕ} {level : List ℕ} → PagePart level e page → {count : ℕ}
      → count ≡ min page_len (entries p.opened.head.cursor.opened l - page_len * e) → count ≤ length page
  count_in part c = omega (arith, part.long)

-- ---- what a page gives
module _ (p : Past) {l e : ℕ} {level page : List ℕ} {count : ℕ} (in_level : LevelPart p.opened.store.now l level) (in_page : PagePart level e page)
    (c : count ≡ min page_len (entries p.opened.head.cursor.opened l - page_len * e)) where
  looked_is : looks p l e ≡ last_up_to p.second count page
  unfolding look_up reader
  looked_is = rw (c, in_page.is, in_level.is)

  -- The entries of the page are its first words.
  pub looked : {x : Option ℕ} → x ≡ entry_of (last_up_to p.second (length (take count page)) (take count page)) → x ≡ looked_up p l e
  looked f =
      let a : length (take count page) ≡ count = simp length-take (omega (arith, in_page.long)) in
      rw (looked_is, ← last_take p.second page count count (omega arith)) (rw a at f)

-- ---- entries as options
pub none_by : {x : Option ℕ} {y : Result ℕ Unsound} {u : Unsound} → x ≡ result_ok y → y ≡ Err u → x ≡ None
none_by e f = rw f at e

pub some_by : {x : Option ℕ} {y : Result ℕ Unsound} {k : ℕ} → x ≡ result_ok y → y ≡ Ok k → x ≡ Some k
some_by e f = rw f at e

entry_some : (n : ℕ) {k : ℕ} → entry_of n ≡ Some k → n ≡ suc k
entry_some zero e = cc
entry_some (suc n) e = cc

entry_none : (n : ℕ) → entry_of n ≡ None → n ≡ 0
entry_none zero e = refl
entry_none (suc n) e = cc

pub entry_small : (t n : ℕ) (l : List ℕ) {x : Option ℕ} {k : ℕ} → x ≡ entry_of (last_up_to t (length (take n l)) (take n l)) → x ≡ Some k → k < n
entry_small t n l {k = k} e q =
    let i : last_up_to t (length (take n l)) (take n l) ≡ suc k = entry_some _ (sym e ∙ q) in
    omega (arith, last_most t (take n l) (length (take n l)), length-take n l)

-- an entry that a page gives is one of its level
look_most : (t opened : ℕ) (R : Reader) (l e : ℕ) → look_up t opened R l e ≤ min page_len (entries opened l - page_len * e)
unfolding look_up
look_most t opened R l e = last_most t (R.page l e) (min page_len (entries opened l - page_len * e))

pub page_entry : {p : Past} {l e : ℕ} → OnPage p l e → {x : Option ℕ} {k : ℕ} → x ≡ looked_up p l e → x ≡ Some k
    → OnEntry p l (page_len * e + k)
page_entry {p} {l} {e} on q s =
    let n = entry_some (looks p l e) (sym q ∙ s) in
    record { three = on.three; entry = omega (arith, look_most p.second p.opened.head.cursor.opened (reader_of p) l e, n) }

-- the level below is asked for a page with an entry
pub entry_page : {p : Past} {l e : ℕ} → OnEntry p l e → (l ≡ 0 → ⊥) → OnPage p (l - 1) e
entry_page {p} {l} {e} on z =
    let q : l ≡ suc (l - 1) = omega arith in
    record { three = omega (arith, on.three); some = below_some p.opened.head.cursor.opened (l - 1) e (rw q at on.entry) }

-- the top page is read whenever a block is opened
pub top_page : (p : Past) → (p.opened.head.cursor.opened ≡ 0 → ⊥) → {l : ℕ} → l ≡ top_level p.opened.head.cursor.opened → OnPage p l 0
top_page p z {l} e = record {
  three = omega (arith, top_below p.opened.head.cursor.opened);
  some = omega (arith, entries_some p.opened.head.cursor.opened (omega arith) l);
}

-- its last entry is the one to go down from
pub top_entry : {p : Past} {l : ℕ} → OnPage p l 0 → {x : Option ℕ} {k : ℕ} → x ≡ looked_up p l 0 → x ≡ Some k
    → OnEntry p l k
top_entry {p} {l} on {k = k} q s =
    let e : page_len * 0 + k ≡ k = omega arith in
    rw e at (page_entry {p = p} {l = l} {e = 0} on q s)

-- ---- one page more is passed
-- (a page has a number below OPEN)
page_some : (e : ℕ) → e < OPEN → page_told e ≡ Some e
page_some e h = rw (ne_eqb e OPEN (λ i. omega arith))

pages_over : (l e : ℕ) (ps : List Pass) → l < 3 → e < OPEN → set (pages_of ps) l (Some e) ≡ pages_of (record { level = l; number = e } ∷ ps)
pages_over zero e ps h k = rw (page_some e k)
pages_over (suc zero) e ps h k = rw (page_some e k)
pages_over (suc (suc zero)) e ps h k = rw (page_some e k)
pages_over (suc (suc (suc l))) e ps h k = absurd (omega arith)

stops : {u : Unsound} (l e : ℕ) (w : Finding ℕ (List Pass)) → searched_of w ≡ Err u → Err u ≡ searched_of (passing (record { level = l; number = e }) w)
stops l e unsound q = refl
stops l e (found n ps) q = cc

goes : (l e : ℕ) → l < 3 → e < OPEN → (w : Finding ℕ (List Pass)) {s r : PathStart} → searched_of w ≡ Ok s → r ≡ pass_over l e s
    → Ok r ≡ searched_of (passing (record { level = l; number = e }) w)
goes l e h k unsound q m = cc
goes l e h k (found n ps) {s} {r} q m =
    let i : s ≡ path_start (block_told n) ps = cc in
    ap Ok (m ∙ rw (i, add-one (length ps), pages_over l e ps h k))

-- ---- below a level
module _ (p : Past) (l e : ℕ) where
  pub descend_ground : l ≡ 0 → {s : PathStart} → s ≡ path_start (Some (e + 1)) [] → Ok s ≡ descended p l e
  unfolding descend
  descend_ground z q = rw (z, ← add-one e) (ap Ok q)

  module _ (z : l ≡ 0 → ⊥) {x : Option ℕ} (look : x ≡ looked_up p (l - 1) e) where
    descend_is : downs p l e
        ≡ cond (eqb (looks p (l - 1) e) 0) unsound
        (passing (record { level = l - 1; number = e }) (downs p (l - 1) (page_len * e + (looks p (l - 1) e - 1))))
    unfolding descend
    descend_is =
        let q : l ≡ suc (l - 1) = omega arith in
        ap (λ (m : ℕ). downs p m e) q

    pub descend_none : x ≡ None → {u : Unsound} → Err u ≡ descended p l e
    descend_none q = rw (descend_is, eq-eqb (looks p (l - 1) e) 0 (entry_none (looks p (l - 1) e) (sym look ∙ q)))

    module _ {k : ℕ} (q : x ≡ Some k) where
      down_is : downs p l e ≡ passing (record { level = l - 1; number = e }) (downs p (l - 1) (page_len * e + k))
      down_is =
          let n : looks p (l - 1) e ≡ suc k = entry_some (looks p (l - 1) e) (sym look ∙ q) in
          let m : looks p (l - 1) e - 1 ≡ k = omega arith in
          descend_is ∙ rw (ne_eqb (looks p (l - 1) e) 0 (λ y. omega arith), m)

      module _ {y : Result PathStart Unsound} (on : y ≡ descended p (l - 1) (page_len * e + k)) where
        pub descend_stop : {u : Unsound} → y ≡ Err u → Err u ≡ descended p l e
        descend_stop n = rw down_is (stops (l - 1) e (downs p (l - 1) (page_len * e + k)) (sym on ∙ n))

        pub descend_on : OnEntry p l e → {s r : PathStart} → y ≡ Ok s → r ≡ pass_over (l - 1) e s → Ok r ≡ descended p l e
        descend_on h n m =
            let few : e < OPEN = omega (arith, h.entry, entries_most p.opened.head.cursor.opened l (few_opened p)) in
            rw down_is (goes (l - 1) e (omega (arith, h.three)) few (downs p (l - 1) (page_len * e + k)) (sym on ∙ n) m)

-- ---- few pages are passed, and the block found is one of those opened
data FewPasses (l opened : ℕ) : Finding ℕ (List Pass) → Type 0 where
  none : FewPasses l opened unsound
  some : {n : ℕ} {ps : List Pass} → length ps ≤ l → n ≤ opened → FewPasses l opened (found n ps)

passing_small : {l opened : ℕ} (p : Pass) {w : Finding ℕ (List Pass)} → FewPasses l opened w → FewPasses (suc l) opened (passing p w)
passing_small p none = none
passing_small p (some {ps = ps} h g) = some {ps = p ∷ ps} (omega arith) g

pub look_entry : (t opened : ℕ) (R : Reader) (l e : ℕ) → (look_up t opened R l e ≡ 0 → ⊥) → page_len * e + (look_up t opened R l e - 1) < entries opened l
look_entry t opened R l e z = omega (arith, look_most t opened R l e)

descend_small : (t opened : ℕ) (R : Reader) (l e : ℕ) → e < entries opened l → FewPasses l opened (descend t opened R l e)
unfolding descend entries
descend_small t opened R zero e h = some {ps = []} (omega arith) h
descend_small t opened R (suc l) e h = cond_all (FewPasses (suc l) opened) (eqb (look_up t opened R l e) 0) (λ z. none)
    (λ z. passing_small _ (descend_small t opened R l _ (look_entry t opened R l e (eqb-false _ 0 z))))

small_start : {l opened : ℕ} {w : Finding ℕ (List Pass)} → FewPasses l opened w → {s : PathStart} → searched_of w ≡ Ok s → s.read ≤ l
small_start none e = cc
small_start (some {n} {ps} h g) {s} e = let i : s ≡ path_start (block_told n) ps = cc in rw i h

small_found : {l opened : ℕ} {w : Finding ℕ (List Pass)} → FewPasses l opened w → {n : ℕ} {ps : List Pass} → w ≡ found n ps
    → (length ps ≤ l) × (n ≤ opened)
small_found none e = cc
small_found (some {n = m} {ps = qs} h g) {n} {ps} e =
    let i : m ≡ n = cc in
    let j : qs ≡ ps = cc in
    (rw j at h, rw i at g)

-- where no page is passed yet, few are read
pub none_read : {b : Option ℕ} {s : PathStart} → s ≡ path_start b [] → s.read ≤ 2
none_read e = rw e (omega arith)

-- the pages read below a level, one for each lower level
pub few_read : (p : Past) {l e : ℕ} → OnEntry p l e → {x : Result PathStart Unsound} → x ≡ descended p l e
    → {s : PathStart} → x ≡ Ok s → s.read ≤ 2
few_read p {l} {e} h q n =
    omega (arith, small_start (descend_small p.second p.opened.head.cursor.opened (reader_of p) l e h.entry) (sym q ∙ n), h.three)

-- ---- the whole search
module _ (p : Past) where
  pub search_empty : p.opened.head.cursor.opened ≡ 0 → {s : PathStart} → s ≡ path_start None [] → Ok s ≡ searched p
  unfolding search
  search_empty z q = rw (eq-eqb p.opened.head.cursor.opened 0 z) (ap Ok q)

  module _ (z : p.opened.head.cursor.opened ≡ 0 → ⊥) {l : ℕ} (top : l ≡ top_level p.opened.head.cursor.opened) {x : Option ℕ} (look : x ≡ looked_up p l 0) where
    three : l < 3
    three = omega (arith, top_below p.opened.head.cursor.opened)

    search_is : all p ≡ passing (record { level = l; number = 0 }) (cond (eqb (looks p l 0) 0) (found 0 []) (downs p l (looks p l 0 - 1)))
    unfolding search
    search_is = rw (ne_eqb p.opened.head.cursor.opened 0 z, ← top)

    -- the top page has no entry up to then,
    pub search_before : x ≡ None → {s r : PathStart} → s ≡ path_start None [] → r ≡ pass_over l 0 s → Ok r ≡ searched p
    search_before q e m = rw (search_is, eq-eqb (looks p l 0) 0 (entry_none (looks p l 0) (sym look ∙ q))) (goes l 0 three (omega arith) (found 0 []) (ap Ok (sym e)) m)

    -- or the search goes down from its last.
    module _ {k : ℕ} (q : x ≡ Some k) {y : Result PathStart Unsound} (on : y ≡ descended p l k) where
      below_is : all p ≡ passing (record { level = l; number = 0 }) (downs p l k)
      below_is =
          let n : looks p l 0 ≡ suc k = entry_some (looks p l 0) (sym look ∙ q) in
          let m : looks p l 0 - 1 ≡ k = omega arith in
          search_is ∙ rw (ne_eqb (looks p l 0) 0 (λ y. omega arith), m)

      pub search_stop : {u : Unsound} → y ≡ Err u → Err u ≡ searched p
      search_stop n = rw below_is (stops l 0 (downs p l k) (sym on ∙ n))

      pub search_on : {s r : PathStart} → y ≡ Ok s → r ≡ pass_over l 0 s → Ok r ≡ searched p
      search_on n m = rw below_is (goes l 0 three (omega arith) (downs p l k) (sym on ∙ n) m)

-- The search reads at most three pages, and the block that it finds is one of those opened.
small_more : {l m opened : ℕ} {w : Finding ℕ (List Pass)} → l ≤ m → FewPasses l opened w → FewPasses m opened w
small_more h none = none
small_more h (some {ps = ps} p q) = some {ps = ps} (omega arith) q

search_small : (t opened : ℕ) (R : Reader) → FewPasses 3 opened (search t opened R)
unfolding search
search_small t opened R =
    let l = top_level opened in
    let top : Pass = record { level = l; number = 0 } in
    cond_all (FewPasses 3 opened) (eqb opened 0) (λ e. some {ps = []} (omega arith) (omega arith))
    (λ e. cond_all (λ x. FewPasses 3 opened (passing top x)) (eqb (look_up t opened R l 0) 0) (λ z. some {ps = top ∷ []} (omega arith) (omega arith))
    (λ z.
    let k = look_entry t opened R l 0 (eqb-false _ 0 z) in
    small_more (top_below opened) (passing_small top (descend_small t opened R l (look_up t opened R l 0 - 1) (omega arith)))))

pub search_few : (t opened : ℕ) (R : Reader) {n : ℕ} {ps : List Pass} → search t opened R ≡ found n ps → (length ps ≤ 3) × (n ≤ opened)
search_few t opened R e = small_found (search_small t opened R) e
