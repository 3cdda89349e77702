-- The window's own tests, in order, for a store that was opened: each way out of the code is ruled.
use Rattle.std.specs.Prelude.{◌≡◌, refl, Bool, true, false, ◌||◌, ℕ, ◌*◌, ◌≤◌, ◌<◌, eqb, Ok, Err}
use Rattle.std.proofs.Common.{sym, ◌∙◌, arith, eq-eqb, ne_eqb, lt-ltb, le-ltb, le-leb}
use Rattle.std.proofs.lemmas.Bool.{lt-leb}
use Rattle.base.specs.Branch.{is?}
use Rattle.layout.specs.declared.refusal.Refusal.TheVariants as refusal
use Rattle.layout.specs.Sizes.{OPEN, row_len}
use Rattle.calls.specs.Refusals.{is_open}
use Rattle.queries.specs.Own.{turned, free}
use Rattle.window.specs.declared.span.Span.{Span}
use Rattle.window.specs.Windowed.{WindowRefusal}

-- ---- a word is OPEN, or below it
pub open_first : {first : ℕ} (last : ℕ) → first ≡ OPEN → true ≡ (is_open first || is_open last)
open_first {first} last e = rw (le-leb OPEN first (omega arith))

pub open_last : {first : ℕ} (last : ℕ) → (first ≡ OPEN → ⊥) → first ≤ OPEN → last ≤ OPEN → eqb last OPEN ≡ (is_open first || is_open last)
open_last {first} last d f g = is? last OPEN
    (λ e. rw (lt-leb OPEN first (omega arith), eq-eqb last OPEN e, le-leb OPEN last (omega arith)))
    (λ e. rw (lt-leb OPEN first (omega arith), ne_eqb last OPEN e, lt-leb OPEN last (omega arith)))

-- ---- the tests
module _ {w : Span} {rows : ℕ} {b : Bool} (test : b ≡ (is_open w.first || is_open w.last)) where
  pub one_open : b ≡ true → WindowRefusal w rows (Err refusal.TimeOpen)
  one_open e = record { own = turned (λ u. rw (sym test ∙ e)) refl }

  module _ (a : b ≡ false) where
    pub last_before : w.last < w.first → WindowRefusal w rows (Err refusal.Reversed)
    last_before e = record { own = turned (λ u. rw (sym test ∙ a, lt-ltb w.last w.first e)) refl }

    module _ (c : w.first ≤ w.last) where
      pub last_late : w.opened.head.cursor.clock < w.last → WindowRefusal w rows (Err refusal.Late)
      last_late e = record { own = turned (λ u. rw (sym test ∙ a, le-ltb w.last w.first c, lt-ltb _ w.last e)) refl }

      module _ (d : w.last ≤ w.opened.head.cursor.clock) where
        pub rows_short : rows < row_len * w.opened.head.settings.tags → WindowRefusal w rows (Err refusal.ShortBuffer)
        rows_short e = record { own = turned (λ u. rw (sym test ∙ a, le-ltb w.last w.first c, le-ltb _ w.last d, lt-ltb rows _ e)) refl }

        pub none_applies : row_len * w.opened.head.settings.tags ≤ rows → WindowRefusal w rows (Ok tt)
        none_applies e = record {
          own = free (record {
            room = e;
            left = λ u. rw (sym test ∙ a, le-ltb w.last w.first c, le-ltb _ w.last d, le-ltb rows _ e);
          });
        }
