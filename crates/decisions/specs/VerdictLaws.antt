-- Verdicts join as the code does: the store is opened first, then the second, then the change's own tests.
use Rattle.std.specs.Prelude.{◌≡◌, true, false, List, ◌∷◌, ℕ, ltb, leb, Ok, Err}
use Rattle.std.proofs.Common.{◌∙◌}
use Rattle.layout.specs.declared.refusal.Refusal.{Refusal}
use Rattle.layout.specs.declared.refusal.Refusal.TheVariants as refusal
use Rattle.layout.specs.declared.head.Head.{Head}
use Rattle.layout.specs.Sizes.{OPEN}
use Rattle.layout.specs.RefusalNumbers.{TIME_OPEN, EARLY, number}
use Rattle.layout.specs.Head.{head_of}
use Rattle.calls.specs.Refusals.{Test, refusal, time_tests, is_open}
use Rattle.queries.specs.declared.opened.Opened.{Opened}
use Rattle.queries.specs.Opens.{Opens, opened, shut}
use Rattle.decisions.specs.Verdict.{Verdict, go, away, OpensAt, timely, untimely}
use Rattle.decisions.specs.TestLaws.{RefusalOf}

-- To go on is to have no refusal, with what is in question; to be refused is to have that one.
pub gone : {A : Type 0} {l : List Test} {a b : A} → Verdict l a (Ok b) → (refusal l ≡ 0) × (b ≡ a)
gone (go e q) = (e, q)

pub refused : {A : Type 0} {l : List Test} {a : A} {e : Refusal} → Verdict l a (Err e) → refusal l ≡ number e
refused (away q) = q

-- the tests of the second, and others behind them
abbrev second_tests : List ℕ → ℕ → List Test → List Test
second_tests ws s l = record { number = TIME_OPEN; applies = is_open s } ∷ record { number = EARLY; applies = ltb s (head_of ws).cursor.clock } ∷ l

module _ {ws : List ℕ} {s : ℕ} where
  -- ---- the store first, then the second
  pub store_shut : {e : Refusal} → Opens ws (Err e) → OpensAt ws s (Err e)
  store_shut (shut f g) = untimely (λ l. f (second_tests ws s l))

  module _ {o : Opened} where
    pub time_open : Opens ws (Ok o) → leb OPEN s ≡ true → OpensAt ws s (Err refusal.TimeOpen)
    time_open (opened w f) a = untimely (λ l. f (second_tests ws s l) ∙ rw a)

    pub time_early : Opens ws (Ok o) → leb OPEN s ≡ false → ltb s o.head.cursor.clock ≡ true → OpensAt ws s (Err refusal.Early)
    time_early (opened w f) a b =
        let is : o.head ≡ head_of ws = rw w at o.readable.is in
        untimely (λ l. f (second_tests ws s l) ∙ rw (a, ← is, b))

    pub time_fits : Opens ws (Ok o) → leb OPEN s ≡ false → ltb s o.head.cursor.clock ≡ false → OpensAt ws s (Ok o)
    time_fits (opened w f) a b =
        let is : o.head ≡ head_of ws = rw w at o.readable.is in
        timely w (λ l. f (second_tests ws s l) ∙ rw (a, ← is, b))

    -- ---- then what is a change's own
    same_head : OpensAt ws s (Ok o) → o.head ≡ head_of ws
    same_head (timely w f) = rw w at o.readable.is

    by_own : (own : Head → List ℕ → List Test) {n : ℕ} → OpensAt ws s (Ok o) → RefusalOf (own o.head o.store.now) n
        → refusal (time_tests ws s (own (head_of ws) ws)) ≡ n
    by_own own (timely w f) g =
        let is : o.head ≡ head_of ws = rw w at o.readable.is in
        f (own (head_of ws) ws) ∙ (rw (is, w) at g.is)

    pub own_refused : (own : Head → List ℕ → List Test) {e : Refusal} → OpensAt ws s (Ok o) → RefusalOf (own o.head o.store.now) (number e)
        → Verdict (time_tests ws s (own (head_of ws) ws)) (head_of ws) (Err e)
    own_refused own t g = away (by_own own t g)

    pub own_passed : (own : Head → List ℕ → List Test) → OpensAt ws s (Ok o) → RefusalOf (own o.head o.store.now) 0
        → Verdict (time_tests ws s (own (head_of ws) ws)) (head_of ws) (Ok o.head)
    own_passed own t g = go (by_own own t g) (same_head t)

  pub time_refused : {A : Type 0} {a : A} {e : Refusal} (l : List Test) → OpensAt ws s (Err e) → Verdict (time_tests ws s l) a (Err e)
  time_refused l (untimely f) = away (f l)
