-- The plain log as a function of second and tag: what each change does to it, and that no tag stands twice in what a log tells, if every set is
-- of a tag that does not stand.
use Rattle.std.specs.Prelude.{◌≡◌, refl, ◌≢◌, Bool, true, false, cond, ◌&&◌, ℕ, ◌+◌, ◌≤◌, ◌<◌, eqb, leb}
use Rattle.std.proofs.Common.{sym, ap₂, ◌∙◌, arith, eq-eqb, ne_eqb, leb-true}
use mathlib.Core.HLevel.{Discrete}
use mathlib.Core.List.{List, [], ◌∷◌, ◌++◌, Memᴰ}
use Rattle.std.proofs.Math.Decide.{ℕ_discrete}
use Rattle.base.specs.Branch.{by_test, by_eqb, is?, cond_all, eqb_same}
use Rattle.base.specs.Sums.{totals, is}
use Rattle.base.specs.Pigeonhole.{keyed}
use Rattle.base.specs.SameRows.{both_discrete}
use Rattle.layout.specs.declared.payload.Payload.{Payload}
use Rattle.layout.specs.Sizes.{OPEN}
use Rattle.layout.specs.Payload.{new_payload}
use Rattle.layout.specs.PartsLaws.{payload_discrete}
use Rattle.calls.specs.Calls.{Call, Set, Clear, Update, Row}
use Rattle.calls.specs.Log.{Log, without, and_row, tells, state_from, state_at}
use Rattle.theory.specs.Timeline.{Telling, none, some, logged}
use Rattle.theory.specs.MemberLaws.{Unique, unique_nil, member_counted}

-- ---- one change more

state_from_last : (t : ℕ) (rows : List Row) (log : Log) (c : Call)
    → state_from t rows (log ++ (c ∷ [])) ≡ tells t (state_from t rows log) c
state_from_last t rows [] c = refl
state_from_last t rows (d ∷ log) c = state_from_last t (tells t rows d) log c

-- The last change tells of what stood before it.
pub state_last : (log : Log) (c : Call) (t : ℕ) → state_at (log ++ (c ∷ [])) t ≡ tells t (state_at log t) c
state_last log c t = state_from_last t [] log c

-- ---- what a list of rows tells of a tag

abbrev pub telling_in : List Row → ℕ → Telling
telling_in [] tag = none
telling_in (r ∷ l) tag = cond (eqb r.tag tag) (some r.payload) (telling_in l tag)

-- Two tests of one tag for different ones may change places; a test made once needs no second time.
apart : {A : Type 0} {one other : ℕ} (tag : ℕ) (x y z : A) → one ≢ other
    → cond (eqb one tag) x (cond (eqb other tag) y z) ≡ cond (eqb other tag) y (cond (eqb one tag) x z)
apart {one = one} {other} tag x y z d =
    by_eqb other tag (λ b. cond (eqb one tag) x (cond b y z) ≡ cond b y (cond (eqb one tag) x z))
    (λ e. rw (ne_eqb one tag (λ c. d (c ∙ sym e))))
    (λ e. refl)

twice : {A : Type 0} (b : Bool) (x y z : A) → cond b x z ≡ cond b x (cond b y z)
twice true x y z = refl
twice false x y z = refl

no_telling : {A : Type 0} {x : Payload} → some x ≡ none → A
no_telling e = let z : ◌≡◌ {A = ℕ} 0 1 = cc in absurd (omega arith)

-- Without a tag's rows it has none, and all others keep theirs.
pub telling_without : (tag asked : ℕ) (l : List Row) → telling_in (without tag l) asked ≡ cond (eqb tag asked) none (telling_in l asked)
telling_without tag asked [] = by_test (eqb tag asked) (λ b. none ≡ cond b none none) (λ e. refl) (λ e. refl)
telling_without tag asked (r ∷ l) =
    by_eqb r.tag tag (λ b. telling_in (cond b (without tag l) (r ∷ without tag l)) asked ≡ cond (eqb tag asked) none (telling_in (r ∷ l) asked))
    (λ e. rw (e, telling_without tag asked l) (twice (eqb tag asked) _ _ _))
    (λ d. rw (telling_without tag asked l) (apart asked _ _ _ d))

without_none : (tag : ℕ) (l : List Row) → telling_in (without tag l) tag ≡ none
without_none tag l = rw (telling_without tag tag l, eqb_same tag)

-- A row more, of a tag of which nothing is told: this is told of it, and of all others what was.
pub telling_and : (tag : ℕ) (p : Payload) (asked : ℕ) (l : List Row) → telling_in l tag ≡ none
    → telling_in (and_row tag p l) asked ≡ cond (eqb tag asked) (some p) (telling_in l asked)
telling_and tag p asked [] e = refl
telling_and tag p asked (r ∷ l) e = is? r.tag tag
    (λ q. no_telling (rw (eq-eqb r.tag tag q) at e))
    (λ d. rw (telling_and tag p asked l (rw (ne_eqb r.tag tag d) at e)) (apart asked _ _ _ d))

-- ---- the log as a function of second and tag

abbrev pub tellings : Log → ℕ → ℕ → Telling
tellings log t tag = telling_in (state_at log t) tag

-- Rows that change from s on, and there in what they tell of one tag.
from_then : (s t tag asked : ℕ) (x : Telling) (new old : List Row)
    → (s ≤ t → telling_in new asked ≡ cond (eqb tag asked) x (telling_in old asked))
    → telling_in (cond (leb s t) new old) asked ≡ cond (leb s t && eqb tag asked) x (telling_in old asked)
from_then s t tag asked x new old f =
    by_test (leb s t) (λ b. telling_in (cond b new old) asked ≡ cond (b && eqb tag asked) x (telling_in old asked))
    (λ e. f (leb-true s t e))
    (λ e. refl)

module _ (log : Log) (s tag : ℕ) where
  -- A set logs its reading and its second, where nothing was told of the tag.
  pub tellings_set : (reading t asked : ℕ) → (s ≤ t → tellings log t tag ≡ none)
      → tellings (log ++ (Set s tag reading ∷ [])) t asked ≡ logged s tag (some (new_payload reading s)) (tellings log) t asked
  tellings_set reading t asked absent =
      rw (state_last log (Set s tag reading) t)
      (from_then s t tag asked (some (new_payload reading s)) (and_row tag (new_payload reading s) (state_at log t)) (state_at log t)
      (λ p. telling_and tag (new_payload reading s) asked (state_at log t) (absent p)))

  -- A clear logs that there is none.
  pub tellings_clear : (t asked : ℕ) → tellings (log ++ (Clear s tag ∷ [])) t asked ≡ logged s tag none (tellings log) t asked
  tellings_clear t asked =
      rw (state_last log (Clear s tag) t)
      (from_then s t tag asked none (without tag (state_at log t)) (state_at log t) (λ p. telling_without tag asked (state_at log t)))

  -- A new reading logs both.
  pub tellings_update : (reading t asked : ℕ)
      → tellings (log ++ (Update s tag reading ∷ [])) t asked ≡ logged s tag (some (new_payload reading s)) (logged s tag none (tellings log)) t asked
  tellings_update reading t asked =
      let rows = state_at log t in
      rw (state_last log (Update s tag reading) t)
      (from_then s t tag asked (some (new_payload reading s)) (and_row tag (new_payload reading s) (without tag rows)) rows
      (λ p. telling_and tag (new_payload reading s) asked (without tag rows) (without_none tag rows)
      ∙ rw (telling_without tag asked rows) (sym (twice (eqb tag asked) _ _ _)))
      ∙ twice (leb s t && eqb tag asked) _ _ _)

-- ---- the rows of a list and what they tell

-- Two rows are equal or not.
pub row_discrete : Discrete Row
row_discrete =
    both_discrete (λ r. r.tag) (λ r. r.payload) (λ x y. ap₂ (λ (tag : ℕ) (p : Payload). record { tag = tag; payload = p })) ℕ_discrete payload_discrete

abbrev pub UniqueTags : List Row → Type 0
UniqueTags = Unique (λ r. r.tag)

-- Where nothing is told of a tag, none of its rows is counted.
none_counted : (tag : ℕ) (l : List Row) → telling_in l tag ≡ none → keyed (λ r. r.tag) tag l ≡ 0
none_counted tag [] e = simp totals
none_counted tag (r ∷ l) e = is? r.tag tag
    (λ q. no_telling (rw (eq-eqb r.tag tag q) at e))
    (λ d. simp (totals, ne_eqb tag r.tag (λ q. d (sym q))) (omega (arith, none_counted tag l (rw (ne_eqb r.tag tag d) at e))))

-- What is told of a tag stands in a row.
pub telling_member : (tag : ℕ) (p : Payload) (l : List Row) → telling_in l tag ≡ some p
    → Memᴰ (record { tag = tag; payload = p }) l
telling_member tag p [] e = no_telling (sym e)
telling_member tag p (r ∷ l) e = is? r.tag tag
    (λ q.
    let f : some r.payload ≡ some p = rw (eq-eqb r.tag tag q) at e in
    let z : r.payload ≡ p = cc in
    Memᴰ.head (rw (← q, ← z)))
    (λ d. Memᴰ.tail (telling_member tag p l (rw (ne_eqb r.tag tag d) at e)))

-- And where no tag stands twice, a row is what is told of its tag.
pub member_telling : {r : Row} {l : List Row} → UniqueTags l → Memᴰ r l → telling_in l r.tag ≡ some r.payload
member_telling {r} u (Memᴰ.head {x = y} e) = rw (← e, eqb_same r.tag)
member_telling {r} u (Memᴰ.tail {x = y} {xs = l} i) =
    let rest : UniqueTags l = record { once = λ m. omega (arith, simp totals at (u.once m)) } in
    rw (ne_eqb y.tag r.tag other) (member_telling rest i)
  where
    other : y.tag ≢ r.tag
    other q = omega (arith, simp (totals, eq-eqb r.tag y.tag (sym q)) at (u.once r.tag), member_counted (λ x. x.tag) i)

-- ---- no tag twice

without_fewer : (m tag : ℕ) (l : List Row) → keyed (λ r. r.tag) m (without tag l) ≤ keyed (λ r. r.tag) m l
without_fewer m tag [] = omega arith
without_fewer m tag (r ∷ l) = cond_all (λ rows. keyed (λ r. r.tag) m rows ≤ keyed (λ r. r.tag) m (r ∷ l)) (eqb r.tag tag)
    (λ e. simp totals (omega (arith, without_fewer m tag l)))
    (λ e. simp totals (omega (arith, without_fewer m tag l)))

unique_without : (tag : ℕ) (l : List Row) → UniqueTags l → UniqueTags (without tag l)
unique_without tag l u = record { once = λ m. omega (arith, without_fewer m tag l, u.once m) }

unique_and : (tag : ℕ) (p : Payload) (l : List Row) → telling_in l tag ≡ none → UniqueTags l → UniqueTags (and_row tag p l)
unique_and tag p l e u = record {
  once = λ m. simp totals (by_eqb m tag (λ b. keyed (λ r. r.tag) m l + (is b + 0) ≤ 1)
      (λ q. rw q (omega (arith, none_counted tag l e)))
      (λ d. omega (arith, u.once m)));
}

-- No tag twice, in whatever second.
pub record Once (log : Log) : Type 0 where
  pub at : (t : ℕ) → t < OPEN → UniqueTags (state_at log t)

pub once_empty : Once []
once_empty = record { at = λ t o. unique_nil (λ r. r.tag) }

module _ {log : Log} (s tag : ℕ) (i : Once log) where
  -- It is enough to look at a change's own rows, in the seconds from s on.
  once_from : (c : Call) (new : ℕ → List Row) → ((t : ℕ) → tells t (state_at log t) c ≡ cond (leb s t) (new t) (state_at log t))
      → ((t : ℕ) → s ≤ t → t < OPEN → UniqueTags (new t)) → Once (log ++ (c ∷ []))
  once_from c new told unique = record {
    at = λ t o. rw (state_last log c t, told t) (cond_all UniqueTags (leb s t) (λ e. unique t (leb-true s t e) o) (λ e. i.at t o));
  }

  -- A set, of a tag that stands at no second from its own on.
  pub once_set : (reading : ℕ) → ((t : ℕ) → s ≤ t → t < OPEN → tellings log t tag ≡ none) → Once (log ++ (Set s tag reading ∷ []))
  once_set reading absent = once_from (Set s tag reading) (λ t. and_row tag (new_payload reading s) (state_at log t)) (λ t. refl)
      (λ t p o. unique_and tag (new_payload reading s) (state_at log t) (absent t p o) (i.at t o))

  pub once_clear : Once (log ++ (Clear s tag ∷ []))
  once_clear = once_from (Clear s tag) (λ t. without tag (state_at log t)) (λ t. refl) (λ t p o. unique_without tag (state_at log t) (i.at t o))

  pub once_update : (reading : ℕ) → Once (log ++ (Update s tag reading ∷ []))
  once_update reading = once_from (Update s tag reading) (λ t. and_row tag (new_payload reading s) (without tag (state_at log t))) (λ t. refl)
      (λ t p o.
      let rows = state_at log t in
      unique_and tag (new_payload reading s) (without tag rows) (without_none tag rows) (unique_without tag rows (i.at t o)))
