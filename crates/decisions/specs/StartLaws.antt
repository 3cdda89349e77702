-- The verdict on a start, as the code goes: the settings first, then the store. What a start that may go on finds.
use Rattle.std.proofs.Math.Path.{◌≡◌, ap}
use Rattle.std.specs.Prelude.{refl, true, List, [], ◌∷◌, ℕ, ◌≤◌, ltb, length, Result, Ok, Err}
use Rattle.std.proofs.Common.{arith}
use Rattle.std.proofs.Math.Bool.{cond, not}
use borrow.Author.Tests.{ltb-false, not-false}
use Rattle.base.specs.Branch.{by_test}
use Rattle.base.specs.Sums.{nil, cons}
use Rattle.layout.specs.declared.settings.Settings.{Settings}
use Rattle.layout.specs.declared.refusal.Refusal.{Refusal}
use Rattle.layout.specs.declared.refusal.Refusal.TheVariants as refusal
use Rattle.layout.specs.RefusalNumbers.{SETTINGS, SHORT_HEAD, SHORT_STORE, number}
use Rattle.layout.specs.Sizes.{head_len, layout_len}
use Rattle.layout.specs.Settings.{in_limits, settings_answer, Within}
use Rattle.layout.specs.SettingsLaws.{limits_within}
use Rattle.layout.specs.OnWords.{fits_held}
use Rattle.calls.specs.Refusals.{Test, refusal, start_tests}
use Rattle.decisions.specs.Verdict.{Verdict, go, away}
use Rattle.decisions.specs.Ready.{ReadyStart}
use Rattle.decisions.specs.VerdictLaws.{gone}
use Rattle.decisions.specs.TestLaws.{RefusalOf, NoneApplies, numbers, none_applies}

-- what the constructor answers to the settings asked for
abbrev pub answered : Settings → Result Settings Refusal
answered s = settings_answer s.block s.useful s.blocks s.tags

-- what is tested once the settings are within their limits
abbrev pub start_own : Settings → List ℕ → List Test
start_own s ws =
    record { number = SHORT_HEAD; applies = ltb (length ws) head_len } ∷ record { number = SHORT_STORE; applies = ltb (length ws) (layout_len s) } ∷ []

module _ (asked : Settings) where
  settings_tests : {s : Settings} → Ok s ≡ answered asked → (in_limits asked ≡ true) × (s ≡ asked)
  unfolding settings_answer
  settings_tests {s} = by_test (in_limits asked)
      (λ t. Ok s ≡ cond t (Ok asked) (Err refusal.Settings) → (t ≡ true) × (s ≡ asked))
      (λ a e. (refl, cc))
      (λ a e. let z : ◌≡◌ {A = ℕ} 0 1 = cc in absurd (omega arith))

  pub settings_within : {s : Settings} → Ok s ≡ answered asked → Within s
  settings_within e = let t = settings_tests e in rw t.1 (limits_within asked t.0)

  module _ (ws : List ℕ) where
    -- ---- the settings first
    pub settings_refused : {e : Refusal} → Err e ≡ answered asked → Verdict (start_tests asked ws) asked (Err e)
    unfolding settings_answer
    settings_refused {e} = by_test (in_limits asked)
        (λ t. Err e ≡ cond t (Ok asked) (Err refusal.Settings)
        → Verdict (record { number = SETTINGS; applies = not t } ∷ start_own asked ws) asked (Err e))
        (λ a q. let z : ◌≡◌ {A = ℕ} 0 1 = cc in absurd (omega arith))
        (λ a q. let z : refusal.Settings ≡ e = cc in away (ap number z))

    -- ---- then the store
    module _ {s : Settings} (fit : Ok s ≡ answered asked) where
      start_first : {r : ℕ} → RefusalOf (start_own s ws) r → refusal (start_tests asked ws) ≡ r
      start_first own = let t = settings_tests fit in rw (t.0, ← t.1) own.is

      pub store_refused : {e : Refusal} → RefusalOf (start_own s ws) (number e) → Verdict (start_tests asked ws) asked (Err e)
      store_refused own = away (start_first own)

      pub store_passed : RefusalOf (start_own s ws) 0 → Verdict (start_tests asked ws) asked (Ok s)
      store_passed own = go (start_first own) (settings_tests fit).1

-- ---- where no test applies
none_start : {ws : List ℕ} {s : Settings} → NoneApplies (start_tests s ws) → ReadyStart ws s
none_start {ws} {s} (cons a (cons b (cons c nil))) =
    let w = limits_within s (not-false _ a) in
    let long : layout_len s ≤ length ws = ltb-false _ _ c in
    record { within = w; head = ltb-false _ _ b; long = long; held = fits_held (record { long = long }) w }

-- No refusal of a start applies: the settings are those asked for, within their limits, and the store is long enough.
pub go_start : {ws : List ℕ} {s s' : Settings} → Verdict (start_tests s ws) s (Ok s') → (s' ≡ s) × ReadyStart ws s
go_start {ws} {s} v = let g = gone v in (g.1, none_start (none_applies (numbers (start_tests s ws) refl) g.0))
