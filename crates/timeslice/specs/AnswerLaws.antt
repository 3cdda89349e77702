-- The whole look-back's answers: the refusals in their order, and what search and path come to.
use Rattle.std.specs.Prelude.{◌≡◌, Bool, true, false, cond, ◌||◌, List, ℕ, zero, suc, ◌≤◌, eqb, length, Option, None, Some, Result, Ok, Err}
use Rattle.std.proofs.Math.Path.{refl}
use Rattle.std.proofs.Common.{sym, ap, ◌∙◌, arith, lt-ltb, le-ltb}
use Rattle.layout.specs.declared.refusal.Refusal.{Refusal}
use Rattle.layout.specs.declared.refusal.Refusal.TheVariants as refusal
use Rattle.layout.specs.declared.head.Head.{Head}
use Rattle.layout.specs.RefusalNumbers.{UNSOUND, number}
use Rattle.layout.specs.Head.{head_of}
use Rattle.calls.specs.Calls.{Row, Refused}
use Rattle.calls.specs.Walk.{Reader, Finding, found, Pass, Walk, unsound, path, search, unsoundly, looked, within, look}
use Rattle.calls.specs.Refusals.{refusal, look_back_own, look_back_tests}
use Rattle.calls.specs.LookBack.{look_back, look_at, seen, view_of, row_words, zeros, is_unsound}
use Rattle.queries.specs.declared.opened.Opened.{Opened}
use Rattle.queries.specs.Opens.{Opens}
use Rattle.queries.specs.OpenLaws.{shut_by, same_words, own_free, own_refused, own_passed}
use Rattle.queries.specs.RowLaws.{words_length, sets_written}
use Rattle.queries.specs.declared.unsound.Unsound.{Unsound}
use Rattle.timeslice.specs.declared.Counts.{Counts}
use Rattle.timeslice.specs.declared.Slice.{Slice}
use Rattle.timeslice.specs.declared.past.Past.{Past}
use Rattle.timeslice.specs.declared.index.PathStart.{PathStart}
use Rattle.timeslice.specs.Reading.{reader_of}
use Rattle.timeslice.specs.Told.{WalkTold, over, bad, PathTold, Buffers, Reach}
use Rattle.timeslice.specs.ToldLaws.{told_found}
use Rattle.timeslice.specs.PathLaws.{path_short, top_told}
use Rattle.timeslice.specs.VisitLaws.{short_found}
use Rattle.timeslice.specs.Searching.{block_told, path_start, searched_of, searched}
use Rattle.timeslice.specs.SearchLaws.{search_few}
use Rattle.timeslice.specs.Answer.{slice_of, view, turned, LookedBack, WalkSays, whole, broken, Answers, SliceRefusal}

-- ---- the whole call, by its first refusal
-- none but the walk's
walk_only : (u : Bool) → (eqb (cond u UNSOUND 0) 0 || eqb (cond u UNSOUND 0) UNSOUND) ≡ true
walk_only true = refl
walk_only false = refl

module _ (ws : List ℕ) (t : ℕ) (rows list : List ℕ) where
  abbrev first : ℕ
  first = refusal (look_back_tests ws t (length rows) (length list) (is_unsound (look_at ws t)))

  refused_is : {e : Refusal} → first ≡ number e → (eqb (number e) 0 || eqb (number e) UNSOUND) ≡ false → LookedBack ws t rows list (Err e) rows list
  unfolding look_back
  refused_is {e} q f =
      let i : look_back ws t rows list ≡ record { answer = Refused (number e); rows = rows; list = list } = rw (q, f) in
      record { answer = rw i (turned refl); row_words_lem = rw i; list_words = rw i }

  -- what the walk saw is the answer, where no refusal but 12 applies
  seen_is : first ≡ cond (is_unsound (look_at ws t)) UNSOUND 0 → look_back ws t rows list ≡ seen rows list (look_at ws t)
  unfolding look_back
  seen_is q = rw (q, walk_only (is_unsound (look_at ws t)))

  -- The store is refused,
  pub store_refused : {e : Refusal} → Opens ws (Err e) → LookedBack ws t rows list (Err e) rows list
  store_refused o =
      let z = shut_by o in
      refused_is (z.0 (look_back_own (head_of ws) t (length rows) (length list) (is_unsound (look_at ws t)))) z.1

-- or one of its own tests applies,
module _ {ws : List ℕ} {o : Opened} (opens : Opens ws (Ok o)) (t : ℕ) {rows list : List ℕ} where
  pub slice_refused : {e : Refusal} → SliceRefusal (record { opened = o; second = t }) (length rows) (length list) (Err e) → LookedBack ws t rows list (Err e) rows list
  slice_refused w =
      let q = own_refused (λ (x : Head) (u : Bool). look_back_own x t (length rows) (length list) u) opens (is_unsound (look_at ws t)) w.own in
      refused_is ws t rows list q.0 q.1

  -- or none does, and the walk may run: its answer is the call's.
  pub slice_answers : {r : Result Slice Refusal} {rows' list' : List ℕ} → SliceRefusal (record { opened = o; second = t }) (length rows) (length list) (Ok tt)
      → Answers (record { opened = o; second = t }) rows list r rows' list' → LookedBack ws t rows list r rows' list'
  slice_answers w a =
      let same = same_words opens in
      let e = seen_is ws t rows list
      (own_passed (λ (x : Head) (u : Bool). look_back_own x t (length rows) (length list) u) opens (is_unsound (look_at ws t)) (own_free w.own)) in
      record {
        answer = rw e (rw same at a.answer);
        row_words_lem = (rw same at a.row_words_lem) ∙ rw e;
        list_words = (rw same at a.list_words) ∙ rw e;
      }

pub buffers_ready : {p : Past} {rows list : List ℕ} → SliceRefusal p (length rows) (length list) (Ok tt) → Buffers p rows list
buffers_ready w = let q = own_free w.own in record { long_rows = q.room.0; long_list = q.room.1 }

-- ---- search and path
-- what was searched, taken apart
searched_nowhere : {u : Unsound} (w : Finding ℕ (List Pass)) → searched_of w ≡ Err u → w ≡ unsound
searched_nowhere unsound e = refl
searched_nowhere (found n ps) e = cc

-- the number of the block that starts the path, 0 if there is none
abbrev pub start_of : Option ℕ → ℕ
start_of None = 0
start_of (Some k) = k

start_told : (n : ℕ) → start_of (block_told n) ≡ n
start_told zero = refl
start_told (suc n) = refl

searched_at : (w : Finding ℕ (List Pass)) {s : PathStart} → searched_of w ≡ Ok s
    → (ps : List Pass) × (w ≡ found (start_of s.block) ps) × (s ≡ path_start s.block ps)
searched_at unsound e = cc
searched_at (found n ps) {s} e =
    let i : s ≡ path_start (block_told n) ps = cc in
    let b : s.block ≡ block_told n = ap (λ (x : PathStart). x.block) i in
    let j : start_of s.block ≡ n = ap start_of b ∙ start_told n in
    (ps, rw j, i ∙ ap (λ (x : Option ℕ). path_start x ps) (sym b))

counts_are : {m : Counts} {a b c : ℕ} → m.rows ≡ a → m.pages ≡ b → m.blocks ≡ c → m ≡ record { rows = a; pages = b; blocks = c }
counts_are e f g = rw (← e, ← f, ← g)

slice_is : {m : Counts} {s : PathStart} (r : List Row) (l : List ℕ) (ps : List Pass) → m.rows ≡ length r → m.pages ≡ s.read → m.blocks ≡ length l
    → s ≡ path_start s.block ps
    → ◌≡◌ {A = Slice} (record { counts = m; pages = s.pages }) (slice_of (view_of r l ps))
slice_is {m} {s} r l ps e f g q =
    let read : m.pages ≡ length ps = f ∙ ap (λ (x : PathStart). x.read) q in
    let pages : s.pages ≡ (path_start s.block ps).pages = ap (λ (x : PathStart). x.pages) q in
    rw (counts_are e read g, pages)

-- the walk from nothing counted: more than d rows, or an unsound link, is unsound
told_unsound : {d : ℕ} {rows list rows' list' : List ℕ} {n : Counts} {u : Unsound} (ps : List Pass) {w : Walk} → n.rows ≡ 0
    → WalkTold d rows list n w (Err u) rows' list' → within d ps w ≡ unsoundly
told_unsound {d} ps z (over {r = r} h) = rw (lt-ltb d (length r) (omega arith))
told_unsound ps z bad = refl

-- and one with at most d rows is the look-back's
look_found : (b d opened t : ℕ) (R : Reader) {n : ℕ} {r : List Row} {l : List ℕ} {ps : List Pass} → search t opened R ≡ found n ps
    → path b t R (suc n) n ≡ found r l → length r ≤ d → look b d opened t R ≡ looked r l ps
unfolding look
look_found b d opened t R {r = r} p w h = rw (p, w, le-ltb d (length r) h)

-- the first counts: none but the pages read
abbrev none_yet : ℕ → Counts
none_yet read = record { rows = 0; pages = read; blocks = 0 }

module _ (p : Past) where
  look_is : look_at p.opened.store.now p.second ≡ look p.opened.head.settings.block p.opened.head.settings.tags p.opened.head.cursor.opened p.second (reader_of p)
  unfolding look_at
  look_is = rw p.opened.readable.is

  module _ {x : Result PathStart Unsound} (search_says : x ≡ searched p) {rows list : List ℕ} where
    pub slices_nowhere : {u : Unsound} → x ≡ Err u → WalkSays p rows list (Err u) rows list
    unfolding look
    slices_nowhere n =
        let q : search p.second p.opened.head.cursor.opened (reader_of p) ≡ unsound = searched_nowhere _ (sym search_says ∙ n) in
        broken (look_is ∙ rw q)

    module _ {s : PathStart} (n : x ≡ Ok s) (b : Buffers p rows list) {k : ℕ} (start : start_of s.block ≡ k) where
      start_at : (ps : List Pass) × (search p.second p.opened.head.cursor.opened (reader_of p) ≡ found k ps) × (s ≡ path_start s.block ps)
      start_at = rw start at (searched_at (search p.second p.opened.head.cursor.opened (reader_of p)) (sym search_says ∙ n))

      pub path_reach : Reach p k (none_yet s.read) rows list
      path_reach =
          let (ps, q, i) = start_at in
          let g = (search_few p.second p.opened.head.cursor.opened (reader_of p) q).1 in
          record {
            buffers = b;
            fits = omega arith;
            known = omega (arith, g, p.opened.readable.sound.opened);
            blocks = omega (arith, g, p.opened.readable.sound.opened);
          }

      module _ {a : Result Counts Unsound} {rows' list' : List ℕ} (told : PathTold p k rows list (none_yet s.read) a rows' list') where
        pub slices_unsound : {u : Unsound} → a ≡ Err u → WalkSays p rows list (Err u) rows' list'
        unfolding look
        slices_unsound e =
            let (ps, q, i) = start_at in
            broken (look_is ∙ rw q (told_unsound ps refl (rw e at (told.told (suc k) (omega arith)))))

        pub slices_whole : {m : Counts} → a ≡ Ok m → WalkSays p rows list
            (Ok (record { counts = m; pages = s.pages })) rows' list'
        slices_whole {m} e =
            let (ps, q, i) = start_at in
            let (r, l, w, f) = told_found (rw e at (told.told (suc k) (omega arith))) in
            let few = short_found (path_short p.opened.head.settings.block p.second (reader_of p) (suc k) k) w in
            let g = (search_few p.second p.opened.head.cursor.opened (reader_of p) q).1 in
            let given : m.rows ≡ length r = omega (arith, f.given) in
            let listed : m.blocks ≡ length l = omega (arith, f.blocks) in
            let all-rows : length (row_words r) ≤ length rows = omega (arith, words_length r, f.fits, b.long_rows) in
            let all_blocks : length l ≤ length list = omega (arith, few, g, p.opened.readable.sound.opened, b.long_list) in
            whole {r = r} {l = l} {ps = ps} (look_is ∙ look_found _ _ _ p.second (reader_of p) q w (omega (arith, f.fits)))
            (slice_is r l ps given f.pages listed i)
            (f.row_words_lem ∙ sets_written (row_words r) rows all-rows)
            (f.list_words ∙ sets_written l list all_blocks)

      -- No block was found: nothing is walked.
      pub slices_none : k ≡ 0 → WalkSays p rows list (Ok (record { counts = none_yet s.read; pages = s.pages })) rows list
      slices_none z = slices_whole (top_told z (omega arith)) refl

-- ---- what was seen is answered
module _ {p : Past} {rows list : List ℕ} {x : Result Slice Unsound} {rows₁ list₁ : List ℕ} (says : WalkSays p rows list x rows₁ list₁) where
  answers_whole : {s : Slice} → WalkSays p rows list (Ok s) rows₁ list₁ → Answers p rows list (Ok s) rows₁ list₁
  answers_whole (whole w e q r) = record { answer = rw w (view e); row_words_lem = rw w q; list_words = rw w r }

  pub answer_whole : {s : Slice} → x ≡ Ok s → Answers p rows list (Ok s) rows₁ list₁
  answer_whole e = answers_whole (rw e at says)

  answers_broken : {u : Unsound} → WalkSays p rows list (Err u) rows₁ list₁ → Answers p rows list (Err refusal.Unsound) (zeros rows) (zeros list)
  answers_broken (broken w) = record { answer = rw w (turned refl); row_words_lem = rw w; list_words = rw w }

  -- both buffers are filled with zeros, as long as they were
  pub answer_broken : {u : Unsound} → x ≡ Err u → length rows₁ ≡ length rows → length list₁ ≡ length list → {rows₂ list₂ : List ℕ}
      → rows₂ ≡ zeros rows₁ → list₂ ≡ zeros list₁ → Answers p rows list (Err refusal.Unsound) rows₂ list₂
  answer_broken e same_rows same_list q r =
      let z = answers_broken (rw e at says) in
      rw (q, r, same_rows, same_list) z
