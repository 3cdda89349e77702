-- The whole window's answers: the refusals in their order, and what the records that are read come to.
use Rattle.std.specs.Prelude.{◌≡◌, Bool, false, cond, ◌||◌, ℕ, ◌≤◌, eqb, length, get_or, Result, Ok, Err}
use Rattle.std.proofs.Math.Path.{subst⁻¹}
use Rattle.std.proofs.Common.{ap, subst, ◌∙◌, arith}
use mathlib.Core.List.{List, [], ◌∷◌, map}
use Rattle.base.specs.Branch.{or-false}
use Rattle.base.specs.ListLaws.{joined_same}
use Rattle.layout.specs.declared.settings.Settings.{Settings}
use Rattle.layout.specs.declared.head.Head.{Head}
use Rattle.layout.specs.declared.refusal.Refusal.{Refusal}
use Rattle.layout.specs.declared.refusal.Refusal.TheVariants as refusal
use Rattle.layout.specs.RefusalNumbers.{UNSOUND, number}
use Rattle.layout.specs.Head.{head_of}
use Rattle.calls.specs.Calls.{Numbers, Refused}
use Rattle.calls.specs.Walk.{Reader}
use Rattle.calls.specs.Refusals.{Test, refusal}
use Rattle.calls.specs.LookBack.{row_words, written, zeros}
use Rattle.calls.specs.Range.{PlacedRecord, crossing}
use Rattle.calls.specs.Window.{latest, of_tag, shown_row, window_rows, window_own, window_tests, window}
use Rattle.queries.specs.declared.opened.Opened.{Opened}
use Rattle.queries.specs.Opens.{Opens}
use Rattle.queries.specs.OpenLaws.{shut_by, same_words, own_free, own_refused, own_passed}
use Rattle.queries.specs.RowLaws.{words_length, sets_written}
use Rattle.queries.specs.declared.unsound.Unsound.{Unsound}
use Rattle.window.specs.declared.span.Span.{Span}
use Rattle.window.specs.Windowed.{Windowed, rows_of, reads_unknown, Answers, answered, unknown, WindowRefusal}
use Rattle.window.specs.Noted.{reader_of, Noted, NotesAll, AllNamed, row_at, best_rows, Rowed, LongRows}
use Rattle.window.specs.LatestLaws.{tag_row}
use Rattle.window.specs.NotedLaws.{noted_at, noted_named}
use Rattle.window.specs.BlockLaws.{notes_noted, notes_unknown}

-- ---- the array and the rows
pub all_named : {s : Settings} {R : Reader} {l : List PlacedRecord} {most : ℕ} {best : List ℕ} → Noted s R l most best → AllNamed s best
all_named n = record { each = noted_named n }

-- the rows that the array names are those of the definition
rows_are : {s : Settings} {R : Reader} {l : List PlacedRecord} {most : ℕ} {best : List ℕ} → Noted s R l most best → (tags : ℕ) → tags ≤ 4096
    → best_rows s R best tags ≡ window_rows l tags
unfolding best_rows window_rows
rows_are {s} {R} {l} {best = best} n tags h = joined_same (λ tag. row_at s R (get_or best tag 0)) (λ tag. map shown_row (latest (of_tag tag l))) tags
    (λ tag i. rw (noted_at n tag (omega arith)) (tag_row n.met tag))

-- ---- answered, or refusal 12
tags_are : (w : Span) → w.opened.head.settings.tags ≡ (head_of w.opened.store.now).settings.tags
tags_are w = rw w.opened.readable.is

module _ (w : Span) {x : Result (Unit {0}) Unsound} {best : List ℕ} (found : NotesAll w x best) {rows : List ℕ} where
  pub rows_answered : {u : Unit {0}} → x ≡ Ok u → LongRows w rows → {n : ℕ} {rows' : List ℕ} → Rowed w best w.opened.head.settings.tags rows n rows'
      → Answers w rows (Ok n) rows'
  rows_answered e long {n} {rows'} rowed =
      let told = rows_of w.opened.store.now w.first w.last in
      let known = notes_noted found e in
      let are : best_rows w.opened.head.settings (reader_of w) best w.opened.head.settings.tags ≡ told =
      rows_are known w.opened.head.settings.tags w.opened.readable.sound.within.tags ∙ ap (window_rows (crossing w.first w.last w.opened.store.now)) (tags_are w) in
      let count : n ≡ length told = rw are at rowed.counts in
      let room : length (row_words told) ≤ length rows = omega (arith, words_length told, rowed.most, long.long) in
      answered (rw (tags_are w) at known.known) count ((rw are at rowed.words) ∙ sets_written (row_words told) rows room)

  pub rows_refused : {u : Unsound} → x ≡ Err u → {rows' : List ℕ} → rows' ≡ zeros rows → Answers w rows (Err refusal.Unsound) rows'
  rows_refused e z = unknown (rw (tags_are w) at (notes_unknown found e)) z

-- ---- the whole call, by its first refusal
module _ (ws : List ℕ) (first last : ℕ) (rows : List ℕ) where
  abbrev first_of : ℕ
  first_of = refusal (window_tests ws first last (length rows))

  -- its own tests, behind those of the store
  abbrev own : List Test
  own = window_own (head_of ws) first last (length rows) (reads_unknown ws first last)

  turned_is : {e : Refusal} → first_of ≡ number e → (eqb (number e) 0 || eqb (number e) UNSOUND) ≡ false → Windowed ws first last rows (Err e) rows
  unfolding window
  turned_is {e} q f =
      let g = or-false (eqb (number e) 0) (eqb (number e) UNSOUND) f in
      let i : window ws first last rows ≡ record { answer = Refused (number e); lent = rows ∷ [] } = rw (q, g.0, g.1) in
      record { answer = rw i; words = rw i }

  -- The store is refused,
  pub store_refused : {e : Refusal} → Opens ws (Err e) → Windowed ws first last rows (Err e) rows
  store_refused o = let z = shut_by o in turned_is (z.0 own) z.1

answer_is : {w : Span} {rows : List ℕ} {r : Result ℕ Refusal} {rows' : List ℕ}
    → refusal (window_tests w.opened.store.now w.first w.last (length rows)) ≡ cond (reads_unknown w.opened.store.now w.first w.last) UNSOUND 0
    → Answers w rows r rows' → Windowed w.opened.store.now w.first w.last rows r rows'
unfolding window
answer_is {w} {rows} q (answered u n a) =
    let told = rows_of w.opened.store.now w.first w.last in
    let e : window w.opened.store.now w.first w.last rows ≡ record { answer = Numbers (length told ∷ []); lent = written (row_words told) rows ∷ [] } = rw (q, u) in
    record { answer = rw (e, n); words = rw (e, a) }
answer_is {w} {rows} q (unknown u a) =
    let e : window w.opened.store.now w.first w.last rows ≡ record { answer = Refused UNSOUND; lent = zeros rows ∷ [] } = rw (q, u) in
    record { answer = rw e; words = rw (e, a) }

-- or one of its own tests applies,
module _ {ws : List ℕ} {o : Opened} (opens : Opens ws (Ok o)) (first last : ℕ) {rows : List ℕ} where
  pub window_refused : {e : Refusal} → WindowRefusal (record { opened = o; first = first; last = last }) (length rows) (Err e) → Windowed ws first last rows (Err e) rows
  window_refused t =
      let p = own_refused (λ (x : Head) (u : Bool). window_own x first last (length rows) u) opens (reads_unknown ws first last) t.own in
      turned_is ws first last rows p.0 p.1

  -- or none does, and the answer is the records'.
  pub window_answers : {r : Result ℕ Refusal} {rows' : List ℕ} → WindowRefusal (record { opened = o; first = first; last = last }) (length rows) (Ok tt)
      → Answers (record { opened = o; first = first; last = last }) rows r rows' → Windowed ws first last rows r rows'
  window_answers {r} {rows'} t a =
      let same = same_words opens in
      let q = own_passed (λ (x : Head) (u : Bool). window_own x first last (length rows) u) opens (reads_unknown ws first last) (own_free t.own) in
      subst (λ (us : List ℕ). Windowed us first last rows r rows') same
      (answer_is {w = record { opened = o; first = first; last = last }}
      (subst⁻¹ (λ (us : List ℕ). refusal (window_tests us first last (length rows)) ≡ cond (reads_unknown us first last) UNSOUND 0) same q) a)

pub rows_ready : {w : Span} {rows : List ℕ} → WindowRefusal w (length rows) (Ok tt) → LongRows w rows
rows_ready t = record { long = (own_free t.own).room }
