-- From what the calls in code answer to what a caller by numbers is told.
use Rattle.std.specs.Prelude.{◌≡◌, refl, Bool, true, false, cond, List, [], ◌∷◌, ℕ, ◌<◌, eqb, ltb, get_or, None, Some, Result, Ok, Err}
use Rattle.std.proofs.Common.{sym, ap, ap₂, ◌∙◌, arith, ne_eqb, ltb-true}
use Rattle.std.proofs.lemmas.List.Edits.{sets}
use Rattle.std.specs.Option.{unwrap_or}
use Rattle.base.specs.Branch.{and-true, by_eqb}
use Rattle.layout.specs.declared.settings.Settings.{Settings}
use Rattle.layout.specs.declared.head.Head.{Head}
use Rattle.layout.specs.declared.refusal.Refusal.{Refusal}
use Rattle.layout.specs.Sizes.{OPEN}
use Rattle.layout.specs.RefusalNumbers.{number, refused}
use Rattle.layout.specs.Settings.{in_limits, Within}
use Rattle.layout.specs.SettingsLaws.{limits_within, StoreLong}
use Rattle.calls.specs.Calls.{View, LookBack, Window, Call, Start, Set, Clear, Update, Advance, Ask, Answer, Done, Shown, Numbers, Refused, Reply, accepted}
use Rattle.calls.specs.Refusals.{Test}
use Rattle.calls.specs.LookBack.{look_back}
use Rattle.calls.specs.Step.{step, tests_of}
use Rattle.calls.specs.Claims.{First, here, later}
use Rattle.theory.specs.TestLaws.{numbered}
use Rattle.theory.specs.AnyCall.{every_call}
use Rattle.changes.specs.Replied.{Replied, answer_of}
use Rattle.timeslice.specs.declared.Slice.{Slice}
use Rattle.timeslice.specs.Searching.{page_told}
use Rattle.timeslice.specs.Answer.{slice_of, Says, view, turned, LookedBack}
use Rattle.window.specs.Windowed.{Windowed, answer_of as window_answer}
use Rattle.register.specs.Exports.{number_of, view_words, six_words, six_after, numbers_after, Exported, ExportedLookBack, ExportedQuery, words_for}

-- ---- a start, change or clock move
pub exported : {r : Reply} {c : Result Head Refusal} {n : ℕ} {words : List ℕ} → Replied r c words → n ≡ refused c → Exported r n words
exported {c = c} e f = record { number = f ∙ told c ∙ ap number_of e.answer; store = e.store }
  where
    told : (c : Result Head Refusal) → refused c ≡ number_of (answer_of c)
    told (Ok h) = refl
    told (Err e) = refl

-- ---- A CALLER IS TOLD 0 EXACTLY IF THE CALL WAS ACCEPTED, on any words: no refusal has the number 0
tests_numbered : (ws : List ℕ) (c : Call) → numbered (tests_of ws c) ≡ true
tests_numbered ws (Start s) = refl
tests_numbered ws (Set s tag reading) = refl
tests_numbered ws (Clear s tag) = refl
tests_numbered ws (Update s tag reading) = refl
tests_numbered ws (Advance s) = refl
tests_numbered ws (Ask (LookBack t rows list)) = refl
tests_numbered ws (Ask (Window first last rows)) = refl

first_above : {l : List Test} {n : ℕ} → numbered l ≡ true → First l n → 0 < n
first_above k (here {x} {l} e) = ltb-true 0 x.number (and-true (ltb 0 x.number) (numbered l) k).0
first_above k (later {x} {l} e f) = first_above (and-true (ltb 0 x.number) (numbered l) k).1 f

zero_accepted : (a : Answer) → ((n : ℕ) → a ≡ Refused n → 0 < n) → eqb (number_of a) 0 ≡ accepted a
zero_accepted (Done h) k = refl
zero_accepted (Shown v) k = refl
zero_accepted (Numbers l) k = refl
zero_accepted (Refused n) k = ne_eqb n 0 (λ e. omega (arith, k n refl, e))

pub told_zero : (ws : List ℕ) (c : Call) → eqb (number_of (step ws c).answer) 0 ≡ accepted (step ws c).answer
told_zero ws c = zero_accepted (step ws c).answer (λ n e. first_above (tests_numbered ws c) ((every_call ws c).refused_first n e))

-- ---- a look-back: refused, or answered with six words
-- those of its slice are those of the view
page_word : (n : ℕ) → unwrap_or (page_told n) OPEN ≡ n
page_word n = by_eqb n OPEN (λ b. unwrap_or (cond b None (Some n)) OPEN ≡ n) (λ e. sym e) (λ e. refl)

slice_words : (v : View) → six_words (slice_of v) ≡ view_words v
slice_words v = rw (page_word (get_or v.pages 0 OPEN), page_word (get_or v.pages 1 OPEN), page_word (get_or v.pages 2 OPEN))

module _ {ws rows list rows' list' : List ℕ} {t : ℕ} {l : Result Slice Refusal} (b : LookedBack ws t rows list l rows' list') (six : List ℕ) where
  -- what is told of an answer, and the six words after it
  abbrev told_so : Answer → ℕ → List ℕ → Type 0
  told_so a n six' = (n ≡ number_of a) × (six' ≡ six_after a six)

  told_back : {n : ℕ} {six' : List ℕ} → told_so (look_back ws t rows list).answer n six' → ExportedLookBack ws t rows list six n rows' list' six'
  told_back p = record { number = p.0; buffers = ap₂ (λ (x y : List ℕ). x ∷ y ∷ []) b.row_words_lem b.list_words; six-words = p.1 }

  refused_so : {a : Answer} {e : Refusal} → Says a (Err e) → told_so a (number e) six
  refused_so (turned q) = (q, refl)

  answered_so : {a : Answer} {s : Slice} → Says a (Ok s) → told_so a 0 (sets six 0 (six_words s))
  answered_so (view {v} e) = (refl, ap (λ (x : Slice). sets six 0 (six_words x)) e ∙ ap (λ (w : List ℕ). sets six 0 w) (slice_words v))

  pub refused_back : {e : Refusal} → l ≡ Err e → ExportedLookBack ws t rows list six (number e) rows' list' six
  refused_back e = told_back (refused_so (rw e at b.answer))

  pub answered_back : {s : Slice} {six' : List ℕ} → l ≡ Ok s → six' ≡ sets six 0 (six_words s) → ExportedLookBack ws t rows list six 0 rows' list' six'
  answered_back e f = let p = answered_so (rw e at b.answer) in told_back (p.0, f ∙ p.1)

-- ---- a window: refused, or answered with one number
module _ {ws rows rows' : List ℕ} {first last : ℕ} {w : Result ℕ Refusal} (b : Windowed ws first last rows w rows') (answer : List ℕ) where
  pub refused_window : {e : Refusal} → w ≡ Err e → ExportedQuery ws (Window first last rows) answer (number e) (rows' ∷ []) answer
  refused_window {e = x} e =
      let is : Refused (number x) ≡ (step ws (Ask (Window first last rows))).answer = ap window_answer (sym e) ∙ b.answer in
      record { number = ap number_of is; buffers = b.words; answered = ap (λ (a : Answer). numbers_after a answer) is }

  pub answered_window : {n : ℕ} {answer' : List ℕ} → w ≡ Ok n → answer' ≡ sets answer 0 (n ∷ [])
      → ExportedQuery ws (Window first last rows) answer 0 (rows' ∷ []) answer'
  answered_window {n} e f =
      let is : Numbers (n ∷ []) ≡ (step ws (Ask (Window first last rows))).answer = ap window_answer (sym e) ∙ b.answer in
      record { number = ap number_of is; buffers = b.words; answered = f ∙ ap (λ (a : Answer). numbers_after a answer) is }

-- ---- how many words a store takes, for settings as they are asked for
pub words_within : {a : Settings} {b : Bool} → b ≡ in_limits a → b ≡ true → Within a
words_within {a} e f = limits_within a (sym e ∙ f)

module _ {a s : Settings} (as-asked : a ≡ s) where
  pub words_taken : {b : Bool} {n : ℕ} → b ≡ in_limits a → b ≡ true → StoreLong a n → n ≡ words_for s
  words_taken e f l = let g : in_limits a ≡ true = sym e ∙ f in rw (← as-asked, g) l.is

  pub words_none : {b : Bool} → b ≡ in_limits a → b ≡ false → 0 ≡ words_for s
  words_none e f = let g : in_limits a ≡ false = sym e ∙ f in rw (← as-asked, g)
