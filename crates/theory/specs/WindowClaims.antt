-- AN ANSWERED WINDOW ON HONEST WORDS: its number, its buffer, and its rows, which ascend and are the log's (crossed).
use Rattle.std.specs.Prelude.{◌≡◌, false, ℕ, ◌≤◌, ◌<◌, length}
use Rattle.std.proofs.Common.{sym, ap, ◌∙◌, ltb-false, leb-false}
use mathlib.Core.List.{List, [], ◌∷◌}
use Rattle.base.specs.Branch.{or-false}
use Rattle.base.specs.Sums.{All, cons}
use Rattle.layout.specs.declared.head.Head.{Head}
use Rattle.layout.specs.Sizes.{OPEN}
use Rattle.calls.specs.Calls.{Ask, Window, Numbers, accepted, QueryReply}
use Rattle.calls.specs.Refusals.{is_open}
use Rattle.calls.specs.LookBack.{row_words, written}
use Rattle.calls.specs.Range.{crossing}
use Rattle.calls.specs.Window.{window_rows, window_tests, window}
use Rattle.calls.specs.Step.{step}
use Rattle.calls.specs.History.{Account}
use Rattle.calls.specs.Claims.{Crossed}
use Rattle.theory.specs.TestLaws.{refusal_none}
use Rattle.theory.specs.Honest.{Honest, head_is}
use Rattle.theory.specs.WindowRows.{ascends}
use Rattle.theory.specs.EveryWindow.{every_window}
use Rattle.theory.specs.HonestWindow.{window_log, stood_given}

module _ {ws : List ℕ} {a : Account} (i : Honest ws a) (first last : ℕ) (rows : List ℕ) where
  -- is asked for a range of seconds
  asked_range : All (λ x. x.applies ≡ false) (window_tests ws first last (length rows)) → (first ≤ last) × (last < OPEN)
  asked_range (cons x₂ (cons x₃ (cons x₄ (cons x₅ (cons x₁₄ r))))) =
      (ltb-false last first x₁₄, leb-false OPEN last (or-false (is_open first) (is_open last) x₅).1)

  -- its numbers and its buffer
  answered_so : All (λ x. x.applies ≡ false) (window_tests ws first last (length rows))
      → window ws first last rows ≡ record {
        answer = Numbers (length (window_rows (crossing first last ws) a.settings.tags) ∷ []);
        lent = written (row_words (window_rows (crossing first last ws) a.settings.tags)) rows ∷ [];
      }
  unfolding window
  answered_so f = rw (refusal_none f) (ap (λ (h : Head).
      let given = window_rows (crossing first last ws) h.settings.tags in
      record { answer = Numbers (length given ∷ []); lent = written (row_words given) rows ∷ [] }) (head_is i))

  pub crossed : (l : List ℕ) → (step ws (Ask (Window first last rows))).answer ≡ Numbers l → Crossed ws a first last rows l
  crossed l e =
      let free = (every_window ws first last rows).accepted_iff.0 (ap accepted e) in
      let range = asked_range free in
      let is = answered_so free in
      let given = window_rows (crossing first last ws) a.settings.tags in
      let same : Numbers (length given ∷ []) ≡ Numbers l = sym (ap (λ (r : QueryReply). r.answer) is) ∙ e in
      record {
        rows = given;
        counted = cc;
        given = ap (λ (r : QueryReply). r.lent) is;
        ascending = (ascends (crossing first last ws) a.settings.tags).ascending;
        log = window_log i first last range.0 range.1;
        stood = stood_given i first last range.0 range.1;
      }
