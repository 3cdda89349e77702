-- A change's or a look-back's own contract gives that of any call.
use Rattle.std.specs.Prelude.{◌≡◌, refl, List, [], ◌∷◌, ℕ, Result, Ok, Err, MatchResult, IsOkAnd}
use Rattle.std.proofs.Common.{sym, ap, ap₂, subst}
use Rattle.layout.specs.declared.head.Head.{Head}
use Rattle.layout.specs.declared.refusal.Refusal.{Refusal}
use Rattle.calls.specs.Calls as calls
use Rattle.calls.specs.Step.{step}
use Rattle.changes.specs.Replied.{Replied, answer_of}
use Rattle.timeslice.specs.declared.Slice.{Slice}
use Rattle.timeslice.specs.Answer.{LookedBack}
use Rattle.timeslice.specs.Answer as looked
use Rattle.applying.specs.declared.call.Call.{Call}
use Rattle.applying.specs.declared.call.Call.TheVariants.{LookBack}
use Rattle.applying.specs.declared.call.Answer.{Answer}
use Rattle.applying.specs.declared.call.Answer.TheVariants.{Done, Shown}
use Rattle.applying.specs.Applied.{Says, head, view, turned, call_of, buffers_after, Applied}

-- what a call answers in code, as one of any call
abbrev pub handed : {A : Type 0} → (A → Answer) → Result A Refusal → Result Answer Refusal
handed f (Ok a) = Ok (f a)
handed f (Err e) = Err e

-- so says `map`
pub mapped : {A : Type 0} (f : A → Answer) (r : Result A Refusal) (s : Result Answer Refusal) {P : A → Answer → Type 0} → ((x : A) (y : Answer) → P x y → y ≡ f x)
    → MatchResult r (λ x. IsOkAnd s (P x)) (λ e. s ≡ Err e) → s ≡ handed f r
mapped f (Ok x) (Ok y) g h = ap Ok (g x y h)
mapped f (Ok x) (Err e) g h = absurd h
mapped f (Err e) s g h = h

changed_says : {a : calls.Answer} (r : Result Head Refusal) → answer_of r ≡ a → Says a (handed Done r)
changed_says (Ok h) e = rw (← e) head
changed_says (Err x) e = rw (← e) (turned refl)

-- a look-back answers with a view or a refusal, never with a head
looked_says : {a : calls.Answer} {r : Result Slice Refusal} → looked.Says a r → Says a (handed Shown r)
looked_says (looked.view e) = view e
looked_says (looked.turned e) = turned e

module _ {ws rows list : List ℕ} {call : Call} {a : Result Answer Refusal} where
  -- a call that touches no buffer
  pub changed_applied : (known : Call) {r : Result Head Refusal} {words : List ℕ} → call ≡ known
      → ((lent : List (List ℕ)) → rows ∷ list ∷ [] ≡ buffers_after known rows list lent)
      → Replied (step ws (call_of known rows list)) r words → a ≡ handed Done r → Applied ws call rows list a words rows list
  changed_applied known {r} {words} e kept p f =
      subst (λ (x : Call). Applied ws x rows list a words rows list) (sym e) (record {
        answer = rw f (changed_says r p.answer);
        store = p.store;
        buffers = kept (step ws (call_of known rows list)).lent;
      })

  pub looked_applied : {t : ℕ} {r : Result Slice Refusal} {rows' list' : List ℕ} → call ≡ LookBack t → LookedBack ws t rows list r rows' list'
      → a ≡ handed Shown r → Applied ws call rows list a ws rows' list'
  looked_applied {t} {r} {rows'} {list'} e b f =
      subst (λ (x : Call). Applied ws x rows list a ws rows' list') (sym e) (record {
        answer = rw f (looked_says b.answer);
        store = refl;
        buffers = ap₂ (λ (x y : List ℕ). x ∷ y ∷ []) b.row_words_lem b.list_words;
      })
