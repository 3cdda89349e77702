-- THE STATE SO FAR: from the last change on, the log's state is what all changes make (so-far); and a tag has a row in it exactly if something is told of it.
use Rattle.std.specs.Prelude.{◌≡◌, refl, false, cond, ◌||◌, List, [], ◌∷◌, ◌++◌, ℕ, ◌≤◌, eqb, leb}
use Rattle.std.proofs.Common.{ap, ◌∙◌, arith, le-leb, leb-true}
use Rattle.base.specs.Branch.{by_test, eqb_same, or-false}
use Rattle.base.specs.Sums.{All, nil, cons, all_map, all_append}
use Rattle.layout.specs.declared.payload.Payload.{Payload}
use Rattle.layout.specs.Payload.{new_payload}
use Rattle.calls.specs.Calls.{Call, Start, Set, Clear, Update, Advance, Ask, Row}
use Rattle.calls.specs.Log.{Log, without, and_row, tells, state_from, state_at, makes, made_from, so_far, among}
use Rattle.theory.specs.Timeline.{none, some}
use Rattle.theory.specs.LogLaws.{telling_in, state_last}

-- a change was made by t
abbrev By : ℕ → Call → Type 0
By t (Set s tag reading) = s ≤ t
By t (Clear s tag) = s ≤ t
By t (Update s tag reading) = s ≤ t
By t (Start s) = Unit {0}
By t (Advance s) = Unit {0}
By t (Ask q) = Unit {0}

by_later : {t u : ℕ} → t ≤ u → (c : Call) → By t c → By u c
by_later h (Set s tag reading) b = omega arith
by_later h (Clear s tag) b = omega arith
by_later h (Update s tag reading) b = omega arith
by_later h (Start s) b = tt
by_later h (Advance s) b = tt
by_later h (Ask q) b = tt

-- and tells of t what it makes
tells_makes : (t : ℕ) (rows : List Row) (c : Call) → By t c → tells t rows c ≡ makes rows c
tells_makes t rows (Set s tag reading) b = rw (le-leb s t b)
tells_makes t rows (Clear s tag) b = rw (le-leb s t b)
tells_makes t rows (Update s tag reading) b = rw (le-leb s t b)
tells_makes t rows (Start s) b = refl
tells_makes t rows (Advance s) b = refl
tells_makes t rows (Ask q) b = refl

-- all changes of a log were made by t
pub record Timed (t : ℕ) (log : Log) : Type 0 where
  pub all : All (By t) log

pub timed_none : {t : ℕ} → Timed t []
timed_none = record { all = nil }

pub timed_later : {t u : ℕ} {log : Log} → t ≤ u → Timed t log → Timed u log
timed_later h i = record { all = all_map (by_later h) i.all }

-- one change more, at s
pub timed_more : {t s : ℕ} {log : Log} (c : Call) → t ≤ s → By s c → Timed t log → Timed s (log ++ (c ∷ []))
timed_more c h b i = record { all = all_append (timed_later h i).all (cons b nil) }

from_made : (t : ℕ) (rows : List Row) {log : Log} → All (By t) log → state_from t rows log ≡ made_from rows log
from_made t rows nil = refl
from_made t rows (cons {x} {l} b a) = ap (λ (r : List Row). state_from t r l) (tells_makes t rows x b) ∙ from_made t (makes rows x) a

pub so-far : {t : ℕ} {log : Log} → Timed t log → state_at log t ≡ so_far log
so-far {t} i = from_made t [] i.all

-- ---- a tag has a row exactly if something is told of it
pub among_none : (tag : ℕ) (l : List Row) → among tag l ≡ false → telling_in l tag ≡ none
among_none tag [] e = refl
among_none tag (r ∷ l) e = let z = or-false (eqb r.tag tag) (among tag l) e in rw z.0 (among_none tag l z.1)

pub none_among : (tag : ℕ) (l : List Row) → telling_in l tag ≡ none → among tag l ≡ false
none_among tag [] e = refl
none_among tag (r ∷ l) e = by_test (eqb r.tag tag) (λ b. cond b (some r.payload) (telling_in l tag) ≡ none → (b || among tag l) ≡ false)
    (λ t q. absurd (let z : ◌≡◌ {A = ℕ} 0 1 = cc in omega arith))
    (λ t q. none_among tag l q)
    e

-- ---- one set and cleared within a second
without_and : (tag : ℕ) (p : Payload) (l : List Row) → among tag l ≡ false → without tag (and_row tag p l) ≡ l
without_and tag p [] e = rw (eqb_same tag)
without_and tag p (r ∷ l) e =
    let z = or-false (eqb r.tag tag) (among tag l) e in
    rw z.0 (ap (λ (m : List Row). r ∷ m) (without_and tag p l z.1))

-- With it every second tells what it told before.
pub never_shows : {clock : ℕ} {log : Log} (s tag reading t : ℕ) → Timed clock log → clock ≤ s → among tag (so_far log) ≡ false
    → state_at (log ++ (Set s tag reading ∷ []) ++ (Clear s tag ∷ [])) t ≡ state_at log t
never_shows {clock} {log} s tag reading t i later absent =
    state_last (log ++ (Set s tag reading ∷ [])) (Clear s tag) t ∙ ap (λ (r : List Row). tells t r (Clear s tag)) (state_last log (Set s tag reading) t) ∙ both
  where
    both : tells t (tells t (state_at log t) (Set s tag reading)) (Clear s tag) ≡ state_at log t
    both = by_test (leb s t) (λ b. leb s t ≡ b → cond b (without tag (cond b (and_row tag (new_payload reading s) (state_at log t)) (state_at log t))) (cond b (and_row tag (new_payload reading s) (state_at log t)) (state_at log t)) ≡ state_at log t)
        (λ e q.
        let by : Timed t log = timed_later (omega (arith, leb-true s t q)) i in
        without_and tag (new_payload reading s) (state_at log t) (rw (so-far by) absent))
        (λ e q. refl)
        refl
