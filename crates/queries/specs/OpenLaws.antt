-- What `open` comes to: the refusals of the head, of a store that is too short, and none; and what a query then knows.
use Rattle.std.specs.Prelude.{◌≡◌, refl, Bool, false, cond, ◌||◌, List, ℕ, ◌≤◌, ◌<◌, eqb, ltb, length, Ok, Err}
use Rattle.std.proofs.Common.{sym, ap, ◌∙◌, arith, lt-ltb, le-ltb}
use Rattle.base.specs.Branch.{by_test}
use Rattle.layout.specs.declared.refusal.Refusal.{Refusal}
use Rattle.layout.specs.declared.refusal.Refusal.TheVariants as refusal
use Rattle.layout.specs.declared.head.Head.{Head}
use Rattle.layout.specs.Sizes.{head_len, layout_len}
use Rattle.layout.specs.RefusalNumbers.{SHORT_HEAD, HEAD, UNSOUND, number}
use Rattle.layout.specs.RefusalLaws.{number_some}
use Rattle.layout.specs.SettingsLaws.{StoreLong}
use Rattle.layout.specs.Head.{bad_head, head_refusal, head_of}
use Rattle.layout.specs.HeadLaws.{HeadRead, head_passes}
use Rattle.layout.specs.OnWords.{fits_held, held_fits}
use Rattle.calls.specs.Refusals.{Test, refusal, store_tests}
use Rattle.queries.specs.declared.opened.Opened.{Opened}
use Rattle.queries.specs.Readable.{Readable}
use Rattle.queries.specs.Opens.{Opens, opened, shut}
use Rattle.queries.specs.Own.{OwnNone, OwnRefusal, turned, free}

-- a refusal with the number n
shut_by_number : {ws : List ℕ} {e : Refusal} {n : ℕ} → number e ≡ n → ((l : List Test) → refusal (store_tests ws l) ≡ n) → (eqb n 0 || eqb n UNSOUND) ≡ false
    → Opens ws (Err e)
shut_by_number q f g = shut (λ l. f l ∙ sym q) (rw q g)

-- The head is refused: there is none, or it is bad.
pub head_shut : {ws : List ℕ} {e : Refusal} → number e ≡ head_refusal ws → Opens ws (Err e)
unfolding head_refusal
head_shut {ws} {e} = by_test (ltb (length ws) head_len)
    (λ b. ltb (length ws) head_len ≡ b → number e ≡ cond b SHORT_HEAD (cond (bad_head ws) HEAD 0) → Opens ws (Err e))
    (λ t a q. shut_by_number q (λ l. rw a) refl)
    (λ t a. by_test (bad_head ws) (λ b. bad_head ws ≡ b → number e ≡ cond b HEAD 0 → Opens ws (Err e))
    (λ u g q. shut_by_number q (λ l. rw (a, g)) refl)
    (λ u g q. let some = number_some e in absurd (omega arith)) refl) refl

-- The head is sound, so that the store's length decides.
module _ {ws : List ℕ} (none : 0 ≡ head_refusal ws) {h : Head} (read : HeadRead ws h) {n : ℕ} (long : StoreLong h.settings n) where
  pub words_short : length ws < n → Opens ws (Err refusal.ShortStore)
  words_short a =
      let p = head_passes ws (sym none) in
      let k : length ws < layout_len (head_of ws).settings = rw (long.is, read.is) at a in
      shut (λ l. rw (le-ltb _ _ p.0, p.1, lt-ltb _ _ k)) refl

  pub words_readable : n ≤ length ws → Readable ws h
  words_readable a =
      let k : layout_len h.settings ≤ length ws = rw long.is at a in
      record { is = read.is; sound = read.sound; marked = read.marked; spare = read.spare; held = fits_held (record { long = k }) read.sound.within }

  pub words_enough : {o : Opened} → o.store.now ≡ ws → n ≤ length ws → Opens ws (Ok o)
  words_enough s a =
      let p = head_passes ws (sym none) in
      let k : layout_len h.settings ≤ length ws = rw long.is at a in
      let k' : layout_len (head_of ws).settings ≤ length ws = rw read.is at k in
      opened s (λ l. rw (le-ltb _ _ p.0, p.1, le-ltb _ _ k'))

-- ---- what a query knows
-- all that is known of a head that was read,
pub was_read : {ws : List ℕ} {h : Head} → Readable ws h → HeadRead ws h
unfolding layout_len
was_read {ws} {h} r =
    let all : layout_len h.settings ≤ length ws = (held_fits r.held).long in
    record { is = r.is; sound = r.sound; long = omega (arith, all); marked = r.marked; spare = r.spare }

-- the store is refused, whatever its own tests are,
pub shut_by : {ws : List ℕ} {e : Refusal} → Opens ws (Err e)
    → ((l : List Test) → refusal (store_tests ws l) ≡ number e) × ((eqb (number e) 0 || eqb (number e) UNSOUND) ≡ false)
shut_by (shut f e) = (f, e)

-- or it is opened: its words are those asked about, and the query's own tests decide.
pub same_words : {ws : List ℕ} {o : Opened} → Opens ws (Ok o) → o.store.now ≡ ws
same_words (opened s f) = s

pub ready_by : {ws : List ℕ} {o : Opened} → Opens ws (Ok o) → Readable ws o.head
ready_by {o = o} (opened s f) = rw s at o.readable

pub own_by : {ws : List ℕ} {o : Opened} (own : Head → List Test) → Opens ws (Ok o)
    → refusal (store_tests ws (own (head_of ws))) ≡ refusal (own o.head)
own_by {ws} {o} own (opened s f) =
    let is : o.head ≡ head_of ws = rw s at o.readable.is in
    f (own (head_of ws)) ∙ ap (λ (x : Head). refusal (own x)) (sym is)

-- ---- by a query's own tests
pub own_turned : {own : Bool → List Test} {Room : Type 0} {e : Refusal} → OwnRefusal own Room (Err e)
    → ((unsound : Bool) → refusal (own unsound) ≡ number e) × ((eqb (number e) 0 || eqb (number e) UNSOUND) ≡ false)
own_turned (turned f g) = (f, g)

pub own_free : {own : Bool → List Test} {Room : Type 0} → OwnRefusal own Room (Ok tt) → OwnNone own Room
own_free (free p) = p

module _ {ws : List ℕ} {o : Opened} (own : Head → Bool → List Test) (is-open : Opens ws (Ok o)) {Room : Type 0} (unsound : Bool) where
  -- one of them applies before a block is read,
  pub own_refused : {e : Refusal} → OwnRefusal (λ u. own o.head u) Room (Err e)
      → (refusal (store_tests ws (own (head_of ws) unsound)) ≡ number e) × ((eqb (number e) 0 || eqb (number e) UNSOUND) ≡ false)
  own_refused w = let p = own_turned w in (own_by (λ x. own x unsound) is-open ∙ p.0 unsound, p.1)

  -- or none does but 12.
  pub own_passed : OwnNone (λ u. own o.head u) Room → refusal (store_tests ws (own (head_of ws) unsound)) ≡ cond unsound UNSOUND 0
  own_passed p = own_by (λ x. own x unsound) is-open ∙ p.left unsound
