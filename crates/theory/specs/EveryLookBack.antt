-- EVERY LOOK-BACK ON ANY WORDS: accepted if and only if no refusal applies, its answer fits its buffers, and refusal 12 fills both with zeros.
use Rattle.std.specs.Prelude.{◌≡◌, ◌≢◌, false, true, Bool, cond, ◌||◌, List, [], ◌∷◌, ℕ, zero, ◌*◌, ◌<◌, length, eqb, ltb}
use Rattle.std.proofs.Math.Path.{refl}
use Rattle.std.proofs.Common.{ap₂, arith}
use borrow.Author.Tests.{ne_eqb, ltb-false}
use Rattle.base.specs.Sums.{All, nil, cons}
use Rattle.base.specs.Branch.{is?, or-false}
use Rattle.layout.specs.Sizes.{row_len}
use Rattle.layout.specs.Head.{head_of}
use Rattle.calls.specs.Calls.{Ask, Refused, LookBack, Row, QueryReply}
use Rattle.calls.specs.Refusals.{Test, refusal, look_back_tests}
use Rattle.calls.specs.Claims.{First, EveryCall, OnlyView}
use Rattle.calls.specs.Walk.{Pass, Looked, unsoundly, looked}
use Rattle.calls.specs.LookBack.{SliceReply, look_at, look_back, seen, is_unsound, row_words, written, reader}
use Rattle.theory.specs.TestLaws.{Decided, free, turned, refused, never_first}
use Rattle.theory.specs.Passes.{look_fits}
use Rattle.theory.specs.ViewClaims.{few_blocks}
use Rattle.theory.specs.EveryQuery.{FairQuery, answered_query, turned_query, unsound_query, every_query, row_words_length, written_length}

module _ (ws : List ℕ) (t : ℕ) (rows list : List ℕ) where
  abbrev pub tests : Bool → List Test
  tests u = look_back_tests ws t (length rows) (length list) u

  -- what is answered fits the buffers
  fits : (r : List Row) (l : List ℕ) (ps : List Pass) → look_at ws t ≡ looked r l ps → All (λ x. x.applies ≡ false) (tests false)
      → (length (written (row_words r) rows) ≡ length rows) × (length (written l list) ≡ length list)
  unfolding look_at
  fits r l ps e (cons x₂ (cons x₃ (cons x₄ (cons x₅ (cons x₇ (cons x₁₁ (cons x₁₂ nil))))))) =
      let h = head_of ws in
      let f = look_fits h.settings.block h.settings.tags h.cursor.opened t (reader ws) r l ps e in
      let b = or-false (ltb (length rows) (row_len * h.settings.tags)) (ltb (length list) h.settings.blocks) x₁₁ in (
        written_length (row_words r) rows (omega (arith, row_words_length r, f.0, ltb-false (length rows) (row_len * h.settings.tags) b.0)),
        written_length l list (omega (arith, f.1, (few_blocks ws x₃).0, ltb-false (length list) h.settings.blocks b.1)),
      )

  -- the reply, for what the walk gave
  abbrev replied : SliceReply → QueryReply
  replied r = record { answer = r.answer; lent = r.rows ∷ r.list ∷ [] }

  abbrev Fair : Looked → ℕ → Type 0
  Fair w n = FairQuery OnlyView (tests (is_unsound w)) (rows ∷ list ∷ [])
      (replied (cond (eqb n 0 || eqb n 12) (seen rows list w) (record { answer = Refused n; rows = rows; list = list })))

  -- an unsound walk: its test is the last
  not_free : All (λ x. x.applies ≡ false) (tests true) → ⊥
  not_free (cons x₂ (cons x₃ (cons x₄ (cons x₅ (cons x₇ (cons x₁₁ (cons x₁₂ nil))))))) = let z : ◌≡◌ {A = ℕ} 0 1 = cc in omega arith

  turned_look : (w : Looked) (n : ℕ) → 0 < n → n ≢ 12 → First (tests (is_unsound w)) n → Fair w n
  turned_look w n p d f = rw (ne_eqb n 0 (omega arith), ne_eqb n 12 d) (turned_query n tt d f)

  fair_look : (w : Looked) → look_at ws t ≡ w → (n : ℕ) → Decided (tests (is_unsound w)) n → Fair w n
  fair_look unsoundly e zero (free a) = absurd (not_free a)
  fair_look unsoundly e n (turned p f) = is? n 12 (λ z. rw z (unsound_query tt refl (rw z at f))) (λ d. turned_look unsoundly n p d f)
  fair_look (looked r l ps) e zero (free a) = let z = fits r l ps e a in answered_query refl tt a (ap₂ (λ (x y : ℕ). x ∷ y ∷ []) z.0 z.1)
  -- a walk that is sound gets no refusal 12
  fair_look (looked r l ps) e n (turned p f) = turned_look (looked r l ps) n p (λ z. never_first {n = 12} {l = tests false} refl (rw z at f)) f

  pub every_look_back : EveryCall ws (Ask (LookBack t rows list))
  unfolding look_back
  every_look_back =
      let w = look_at ws t in
      every_query ws (LookBack t rows list) (fair_look w refl (refusal (tests (is_unsound w))) (refused (tests (is_unsound w)) refl))
