-- Walks told one after another are told as one walk; a walk that stops, stops the whole. And a block listed, its rows taken, is told.
use Rattle.std.specs.Prelude.{◌≡◌, refl, List, [], ◌++◌, ℕ, ◌+◌, ◌≤◌, length, Result, Ok, Err}
use Rattle.std.proofs.Common.{sym, ◌∙◌, arith, length-append}
use Rattle.std.proofs.lemmas.List.Edits.{sets}
use Rattle.timeslice.specs.declared.past.Past.{Past}
use Rattle.calls.specs.Calls.{Row}
use Rattle.calls.specs.Walk.{Walk, unsound, found, and_then}
use Rattle.queries.specs.RowLaws.{sets_append, rows_append}
use Rattle.queries.specs.declared.unsound.Unsound.{Unsound}
use Rattle.timeslice.specs.declared.Counts.{Counts}
use Rattle.timeslice.specs.Taken.{Takes, all, many as more}
use Rattle.timeslice.specs.Told.{Filled, WalkTold, done, over, bad, Buffers}

-- ---- one walk after another
module _ (d : ℕ) (rows list : List ℕ) (n : Counts) where
  filled_then : {r r' : List Row} {l l' : List ℕ} {m k : Counts} {rows₁ list₁ rows₂ list₂ : List ℕ} → Filled d rows list n r l m rows₁ list₁
      → Filled d rows₁ list₁ m r' l' k rows₂ list₂ → Filled d rows list n (r ++ r') (l ++ l') k rows₂ list₂
  filled_then {r} {r'} {l} {l'} a b = record {
    given = simp length-append (omega arith);
    pages = b.pages ∙ a.pages;
    blocks = simp length-append (omega arith);
    fits = b.fits;
    row_words_lem = b.row_words_lem ∙ rw (a.row_words_lem, a.given) (sym (rows_append rows n.rows r r'));
    list_words = b.list_words ∙ rw (a.list_words, a.blocks) (sym (sets_append list n.blocks l l'));
  }

  pub told_then : {v w : Walk} {m : Counts} {a : Result Counts Unsound} {rows₁ list₁ rows₂ list₂ : List ℕ} → WalkTold d rows list n v (Ok m) rows₁ list₁
      → WalkTold d rows₁ list₁ m w a rows₂ list₂ → WalkTold d rows list n (and_then v w) a rows₂ list₂
  told_then (done {r = r} {l = l} a) (done {r = r'} {l = l'} {m = k} b) = done {r = r ++ r'} {l = l ++ l'} {m = k} (filled_then a b)
  told_then (done {r = r} a) (over {r = r'} h) = over {r = r ++ r'} (simp length-append (omega arith))
  told_then (done a) bad = bad

  pub told_stop : (w : Walk) {v : Walk} {e : Unsound} {rows₁ list₁ : List ℕ} → WalkTold d rows list n v (Err e) rows₁ list₁
      → WalkTold d rows list n (and_then v w) (Err e) rows₁ list₁
  told_stop unsound (over h) = bad
  told_stop unsound bad = bad
  told_stop (found r l) (over {r = r'} h) = over {r = r' ++ r} (simp length-append (omega arith))
  told_stop (found r l) bad = bad

  -- nothing found
  pub told_none : n.rows ≤ d → WalkTold d rows list n (found [] []) (Ok n) rows list
  told_none h =
      done {r = []} {l = []} {m = n}
      (record { given = omega arith; pages = refl; blocks = omega arith; fits = h; row_words_lem = refl; list_words = refl })

-- a walk told with counts was found
pub told_found : {d : ℕ} {rows list rows' list' : List ℕ} {n m : Counts} {w : Walk} → WalkTold d rows list n w (Ok m) rows' list'
    → (r : List Row) × (l : List ℕ) × (w ≡ found r l) × Filled d rows list n r l m rows' list'
told_found (done {r = r} {l = l} a) = (r, l, refl, a)

-- ---- a walk's rows taken and its blocks listed
module _ {d : ℕ} {rows list : List ℕ} {n : Counts} {r : List Row} {l : List ℕ} {x : Result ℕ Unsound} {rows' : List ℕ} (taken : Takes d rows n.rows r x rows') where
  all_told : {given m : ℕ} {list' : List ℕ} → Takes d rows n.rows r (Ok given) rows' → m ≡ n.blocks + length l → list' ≡ sets list n.blocks l
      → WalkTold d rows list n (found r l) (Ok (record { rows = given; pages = n.pages; blocks = m })) rows' list'
  all_told (all g f w) e q = done {r = r} {l = l} (record { given = g; pages = refl; blocks = e; fits = f; row_words_lem = w; list_words = q })

  many_told : {e : Unsound} {list' : List ℕ} → Takes d rows n.rows r (Err e) rows' → WalkTold d rows list n (found r l) (Err e) rows' list'
  many_told (more h) = over {r = r} h

  -- all its rows, or too many
  pub taken_all : {given : ℕ} → x ≡ Ok given → {m : ℕ} {list' : List ℕ} → m ≡ n.blocks + length l → list' ≡ sets list n.blocks l
      → WalkTold d rows list n (found r l) (Ok (record { rows = given; pages = n.pages; blocks = m })) rows' list'
  taken_all e = all_told (rw e at taken)

  pub taken_many : {u : Unsound} → x ≡ Err u → {list' : List ℕ} → WalkTold d rows list n (found r l) (Err u) rows' list'
  taken_many e = many_told (rw e at taken)

-- buffers that a call was lent are as long as before
pub buffers_same : {p : Past} {rows list rows₁ list₁ : List ℕ} → Buffers p rows list → length rows₁ ≡ length rows → length list₁ ≡ length list
    → Buffers p rows₁ list₁
buffers_same b e f = record { long_rows = omega (arith, b.long_rows); long_list = omega (arith, b.long_list) }
