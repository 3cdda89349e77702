-- The listing's answers: each way out of the code lists the visit as it is defined; what is listed leaves room; and with the rows that follow from the
-- list the whole visit is told.
use Rattle.std.specs.Prelude.{◌≡◌, List, [], ◌∷◌, ◌++◌, ℕ, suc, ◌+◌, ◌-◌, ◌≤◌, ◌<◌, length, take, drop, Result, Ok, Err}
use Rattle.std.proofs.Math.Path.{refl}
use Rattle.std.proofs.Common.{sym, ◌∙◌, append_assoc, length-append, length-take, take_at, drop_at}
use native.Mathlib.Omega.{arith}
use Rattle.std.proofs.Math.ListN.{set}
use Rattle.std.proofs.lemmas.List.Edits.{sets, sets-eq}
use borrow.Author.Tests.{eq-eqb, ne_eqb, le-leb, lt-leb}
use Rattle.base.specs.Sums.{All, all_map}
use Rattle.layout.specs.Address.{Numbered}
use Rattle.layout.specs.Fields.{closed_word, left_word, child_word}
use Rattle.layout.specs.Parts.{block_word}
use Rattle.calls.specs.Calls.{Row}
use Rattle.calls.specs.Walk.{Walk, found, and_then, rows_of, visit}
use Rattle.queries.specs.BlockLaws.{word_is}
use Rattle.queries.specs.RowLaws.{sets_append}
use Rattle.queries.specs.declared.unsound.Unsound.{Unsound}
use Rattle.timeslice.specs.declared.Counts.{Counts}
use Rattle.timeslice.specs.declared.past.Past.{Past}
use Rattle.timeslice.specs.Reading.{reader_of}
use Rattle.timeslice.specs.Taken.{Takes, RowBuffer}
use Rattle.timeslice.specs.Told.{WalkTold, bad, VisitTold, Gap}
use Rattle.timeslice.specs.ToldLaws.{taken_all, taken_many}
use Rattle.timeslice.specs.Listed.{rows_in, Listed, every, none, VisitListed, ListRoom, InsideListed, InsideRoom}
use Rattle.timeslice.specs.VisitLaws.{with_fuel, visit_short, short_found, visit_follows, follows_rows, follows_all}

-- ---- one walk listed after another
pub listed_then : {list list₁ list₂ : List ℕ} {n m : ℕ} {a : Result ℕ Unsound} {v w : Walk} → Listed list n v (Ok m) list₁ → Listed list₁ m w a list₂
    → Listed list n (and_then v w) a list₂
listed_then {list = list} {n = n} (every {r = r} {l = l} e q) (every {r = r'} {l = l'} {m = k} e' q') =
    every {r = r ++ r'} {l = l ++ l'} {m = k} (simp length-append (omega arith)) (q' ∙ rw (q, e) (sym (sets_append list n l l')))
listed_then (every e q) none = none

pub listed_stop : {list list₁ : List ℕ} {n : ℕ} {e : Unsound} {v : Walk} (w : Walk) → Listed list n v (Err e) list₁ → Listed list n (and_then v w) (Err e) list₁
listed_stop w none = none

-- what was listed was found
pub listed_found : {list list' : List ℕ} {n m : ℕ} {w : Walk} → Listed list n w (Ok m) list'
    → (r : List Row) × (l : List ℕ) × (w ≡ found r l) × (m ≡ n + length l) × (list' ≡ sets list n l)
listed_found (every {r = r} {l = l} e q) = (r, l, refl, e, q)

-- ---- the ways out of a visit of block k
abbrev go : Past → ℕ → ℕ → ℕ → ℕ → Walk
go p = visit p.opened.head.settings.block p.second (reader_of p)

module _ {p : Past} {lower upper k : ℕ} {list : List ℕ} {n : ℕ} where
  enough : {a : Result ℕ Unsound} {list' : List ℕ} → ((f : ℕ) → upper - lower ≤ f → Listed list n (go p (suc f) lower upper k) a list')
      → VisitListed p lower upper k list n a list'
  enough {a} {list'} g = record { told = with_fuel (λ f. Listed list n (go p f lower upper k) a list') (upper - lower) g }

  -- There is no block,
  pub visit_none : k ≡ 0 → VisitListed p lower upper k list n (Ok n) list
  unfolding visit
  visit_none e = enough (λ f q. rw (eq-eqb k 0 e) (every {r = []} {l = []} {m = n} (omega arith) refl))

  -- or it lies outside of the two numbers,
  pub visit_low : (k ≡ 0 → ⊥) → k ≤ lower → VisitListed p lower upper k list n (Err (record {})) list
  unfolding visit
  visit_low z e = enough (λ f q. rw (ne_eqb k 0 z, le-leb k lower e) none)

  module _ (e₂ : lower < k) where
    pub visit_high : upper ≤ k → VisitListed p lower upper k list n (Err (record {})) list
    unfolding visit
    visit_high e = enough (λ f q. rw (ne_eqb k 0 (λ z. omega arith), lt-leb k lower e₂, le-leb upper k e) none)

    module _ (e₃ : k < upper) {block : List ℕ} (is : block ≡ (reader_of p).block k) {closed : ℕ} (c : closed ≡ block_word block closed_word) where
      -- or it closed by then,
      pub visit_ended : closed ≤ p.second → VisitListed p lower upper k list n (Ok (n + 1)) (set list n k)
      unfolding visit
      visit_ended g =
          let h : block_word ((reader_of p).block k) closed_word ≤ p.second = rw (word_is closed_word is c) at g in
          enough (λ f q.
          rw (ne_eqb k 0 (λ z. omega arith), lt-leb k lower e₂, lt-leb upper k e₃, le-leb _ _ h) (every {r = []} {l = k ∷ []} refl refl))

      -- or the visit goes on inside.
      pub visit_goes : p.second < closed → {a : Result ℕ Unsound} {list' : List ℕ} → InsideListed p lower upper k (set list n k) (n + 1) a list'
          → VisitListed p lower upper k list n a list'
      unfolding visit
      visit_goes g inside =
          let b = p.opened.head.settings.block in
          let here : Listed list n (found (rows_of b p.second ((reader_of p).block k)) (k ∷ [])) (Ok (n + 1)) (set list n k) = every {l = k ∷ []} refl refl in
          let h : p.second < block_word ((reader_of p).block k) closed_word = rw (word_is closed_word is c) at g in
          enough (λ f q.
          rw (ne_eqb k 0 (λ z. omega arith), lt-leb k lower e₂, lt-leb upper k e₃, lt-leb _ _ h) (listed_then here (inside.told f q)))

-- ---- the visits inside block k: of its last child,
module _ {p : Past} {lower upper k : ℕ} {list : List ℕ} {n : ℕ} (room : InsideRoom p lower upper k n list) {block : List ℕ}
    (is : block ≡ (reader_of p).block k) {child : ℕ} (c : child ≡ block_word block child_word)
    {a : Result ℕ Unsound} {list₁ : List ℕ} (first : VisitListed p k upper child list n a list₁) where
  child_listed : (f : ℕ) → upper - lower ≤ f → Listed list n (go p f k upper (block_word ((reader_of p).block k) child_word)) a list₁
  child_listed f h = rw (word_is child_word is c) at (first.told f (omega (arith, room.low, room.high)))

  -- which stops them,
  pub inside_stops : {u : Unsound} → a ≡ Err u → InsideListed p lower upper k list n (Err u) list₁
  inside_stops e = record { told = λ f h. listed_stop (go p f lower k (block_word ((reader_of p).block k) left_word)) (rw e at (child_listed f h)) }

  -- or leaves room for that of its left,
  module _ {m : ℕ} (e : a ≡ Ok m) where
    pub left_room : length list₁ ≡ length list → ListRoom p lower k m list₁
    left_room same =
        let (r, l, w, e', q) = listed_found (rw e at (first.told (suc (upper - k)) (omega arith))) in
        let short = short_found (visit_short p.opened.head.settings.block p.second (reader_of p) (suc (upper - k)) k upper child room.high) w in
        record {
          long = omega (arith, room.long);
          gap = room.low;
          known = omega (arith, room.known, room.high);
          blocks = omega (arith, room.blocks);
        }

    -- which comes next.
    pub inside_goes : {left : ℕ} → left ≡ block_word block left_word → {a' : Result ℕ Unsound} {list₂ : List ℕ} → VisitListed p lower k left list₁ m a' list₂
        → InsideListed p lower upper k list n a' list₂
    inside_goes d second = record {
      told = λ f h. listed_then (rw e at (child_listed f h)) (rw (word_is left_word is d) at (second.told f (omega (arith, room.low, room.high))));
    }

-- ---- the whole visit
-- the part of the list that a visit listed, whose rows taken tell the visit
pub record ListedPart (p : Past) (lower upper k : ℕ) (rows list : List ℕ) (n : Counts) (m : ℕ) (list' : List ℕ) : Type 0 where
  pub start : n.blocks ≤ m
  pub end : m ≤ length list'
  pub numbered : All (Numbered p.opened.head.settings) (take (m - n.blocks) (drop n.blocks list'))
  pub many : {x : Result ℕ Unsound} {u : Unsound} {rows' : List ℕ}
      → Takes p.opened.head.settings.tags rows n.rows (rows_in p.opened.head.settings.block p.second (reader_of p) (take (m - n.blocks) (drop n.blocks list'))) x rows'
      → x ≡ Err u → VisitTold p lower upper k rows list n (Err u) rows' list'
  pub whole : {x : Result ℕ Unsound} {rows' : List ℕ} {given : ℕ}
      → Takes p.opened.head.settings.tags rows n.rows (rows_in p.opened.head.settings.block p.second (reader_of p) (take (m - n.blocks) (drop n.blocks list'))) x rows'
      → x ≡ Ok given → VisitTold p lower upper k rows list n (Ok (record { rows = given; pages = n.pages; blocks = m })) rows' list'

module _ {p : Past} {lower upper : ℕ} {rows list : List ℕ} {n : Counts} (room : Gap p lower upper n rows list) where
  pub gap_list : ListRoom p lower upper n.blocks list
  gap_list = record { long = room.buffers.long_list; gap = room.gap; known = room.known; blocks = room.blocks }

  pub gap_rows : RowBuffer p n.rows rows
  gap_rows = record { fits = room.fits; long = room.buffers.long_rows }

  -- what was listed behind the others is that part of the list
  listed_part : {m : ℕ} {list' l : List ℕ} → m ≡ n.blocks + length l → list' ≡ sets list n.blocks l → n.blocks + length l ≤ p.opened.head.settings.blocks
      → take (m - n.blocks) (drop n.blocks list') ≡ l
  listed_part {m} {list'} {l} e q g =
      let a : ℕ = n.blocks in
      let d : m - a ≡ length l = omega arith in
      let front : length (take a list) ≡ a = simp length-take (omega (arith, room.buffers.long_list)) in
      let i : list' ≡ take a list ++ (l ++ drop (a + length l) list)
      = q ∙ sets-eq l list a (omega (arith, room.buffers.long_list)) ∙ append_assoc (take a list) l (drop (a + length l) list) in
      rw (i, d, drop_at (take a list) (l ++ drop (a + length l) list) a front) (take_at l (drop (a + length l) list) (length l) refl)

  stops : {u : Unsound} {list' : List ℕ} {w : Walk} → Listed list n.blocks w (Err u) list' → {rows' : List ℕ}
      → WalkTold p.opened.head.settings.tags rows list n w (Err u) rows' list'
  stops none = bad

  module _ {k : ℕ} {a : Result ℕ Unsound} {list' : List ℕ} (listing : VisitListed p lower upper k list n.blocks a list') where
    -- It is unsound,
    pub visit_stops : {u : Unsound} → a ≡ Err u → {rows' : List ℕ} → VisitTold p lower upper k rows list n (Err u) rows' list'
    visit_stops e = record { told = λ f h. stops (rw e at (listing.told f h)) }

    few : (f : ℕ) {r : List Row} {l : List ℕ} → visit p.opened.head.settings.block p.second (reader_of p) f lower upper k ≡ found r l
        → n.blocks + length l ≤ p.opened.head.settings.blocks
    few f w = omega (arith, short_found (visit_short p.opened.head.settings.block p.second (reader_of p) f lower upper k room.gap) w, room.blocks)

    -- or what is listed is a part of the list,
    module _ {m : ℕ} (ok : a ≡ Ok m) (same : length list' ≡ length list) where
      -- whose rows are the visit's,
      found_by : {x : Result ℕ Unsound} {rows' : List ℕ}
          → Takes p.opened.head.settings.tags rows n.rows (rows_in p.opened.head.settings.block p.second (reader_of p) (take (m - n.blocks) (drop n.blocks list'))) x rows'
          → (f : ℕ) → upper - lower < f
          → (r : List Row) × (l : List ℕ) × (visit p.opened.head.settings.block p.second (reader_of p) f lower upper k ≡ found r l) × (m ≡ n.blocks + length l)
          × (list' ≡ sets list n.blocks l) × Takes p.opened.head.settings.tags rows n.rows r x rows'
      found_by taken f g =
          let b = p.opened.head.settings.block in
          let (r, l, w, e, q) = listed_found (rw ok at (listing.told f g)) in
          let i : r ≡ rows_in b p.second (reader_of p) l =
          follows_rows b p.second (reader_of p) (rw w at (visit_follows b p.second (reader_of p) f lower upper k)) in
          let j = listed_part {l = l} e q (few f w) in
          (r, l, w, e, q, rw (j, ← i) at taken)

      -- of blocks of the store.
      pub visit_part : ListedPart p lower upper k rows list n m list'
      visit_part =
          let b = p.opened.head.settings.block in
          let f : ℕ = suc (upper - lower) in
          let (r, l, w, e, q) = listed_found (rw ok at (listing.told f (omega arith))) in
          let i = listed_part {l = l} e q (few f w) in
          record {
            start = omega arith;
            end = omega (arith, few f w, room.buffers.long_list);
            numbered = rw i
                (all_map (λ i b. record { low = omega (arith, b.low); high = omega (arith, b.high, room.known) })
                (follows_all b p.second (reader_of p) (rw w at (visit_follows b p.second (reader_of p) f lower upper k))));
            many = λ taken z. record { told = λ f g. let (r, l, w, e, q, y) = found_by taken f g in rw w (taken_many y z) };
            whole = λ taken z. record { told = λ f g. let (r, l, w, e, q, y) = found_by taken f g in rw w (taken_all y z e q) };
          }
