-- Parts with bytes in front of the first; and a line's four fields, as the library gives them.
use Rattle.std.specs.Prelude.{◌≡◌, ◌≢◌, ◌⊎◌, refl, Bool, true, false, List, [], ◌∷◌, ◌++◌, ℕ, ◌≤◌, ◌<◌, eqb, length, map, Option, Some, None, IsNone, IfSome, IsTrue}
use Rattle.std.specs.Iterator.{AlwaysYields, Yields}
use Rattle.std.specs.Iterator.Runs.{Run, YieldsRun, SomeRun, WholeRun}
use Rattle.std.specs.List as list
use Rattle.std.proofs.Common.{◌∙◌, ap, inl, inr, append_assoc, arith}
use Rattle.std.proofs.lemmas.List.{length-map}
use Rattle.std.proofs.lemmas.List.Splits.{slice_split-cons_yes, slice_split-cons_no, length-slice_split}
use Rattle.std.proofs.lemmas.Iterator.{YieldsList, items_from_drains}
use Rattle.std.proofs.lemmas.Iterator.Splits.{YieldsList-from_slice_split}
use Rattle.std.specs.Borrow.{Bor}
use Rattle.std.specs.Fn.{CalledAt}
use Rattle.std.specs.Slice.Iter.{split_steps, split_rest, split_done, split_callee}
use Rattle.std.specs.declared.slice.Split.{Split}
use denote.Param.Members.{Mut}
use Rattle.console_text.specs.Fields.{split, fields_of, four, FourFields, four_of, fields_view}

-- ---- parts

-- Bytes in front of the first part.
unfoldable pub onto_first : List ℕ → List (List ℕ) → List (List ℕ)
onto_first bytes [] = bytes ∷ []
onto_first bytes (part ∷ parts) = (bytes ++ part) ∷ parts

pub onto_onto : (p q : List ℕ) (parts : List (List ℕ)) → onto_first p (onto_first q parts) ≡ onto_first (p ++ q) parts
unfolding onto_first
onto_onto p q [] = refl
onto_onto p q (r ∷ parts) = simp append_assoc

-- There is always a part.
pub split_some : (s : ℕ) (l : List ℕ) → 1 ≤ length (split s l)
split_some s l = omega (arith, length-slice_split (λ x. eqb x s) l)

pub onto_none : (s : ℕ) (l : List ℕ) → onto_first [] (split s l) ≡ split s l
unfolding onto_first
onto_none s l = go (split s l) (split_some s l)
  where
    go : (parts : List (List ℕ)) → 1 ≤ length parts → onto_first [] parts ≡ parts
    go [] h = absurd (omega arith)
    go (r ∷ parts) h = refl

-- A separator ends a part, and any other byte goes on with it.
pub split_at : (s x : ℕ) (l : List ℕ) → eqb x s ≡ true → split s (x ∷ l) ≡ [] ∷ split s l
split_at s x l e = slice_split-cons_yes (λ y. eqb y s) x l e

pub split_on : (s x : ℕ) (l : List ℕ) → eqb x s ≡ false → split s (x ∷ l) ≡ onto_first (x ∷ []) (split s l)
unfolding onto_first
split_on s x l e = slice_split-cons_no (λ y. eqb y s) x l e ∙ same (split s l)
  where
    same : (parts : List (List ℕ)) → list.onto_first x parts ≡ onto_first (x ∷ []) parts
    same [] = refl
    same (part ∷ parts) = refl

-- ---- fields given by the library's iterator

-- No run gives more items than there are parts.
no_longer : {S A : Type 0} (steps : S → Option A → S → Type 0) (v : A → List ℕ) (xs : List A) (parts : List (List ℕ)) (s t : S)
    → AlwaysYields steps v s parts → Yields steps s xs t → length xs ≤ length parts
no_longer steps v [] parts s t l y = omega arith
no_longer steps v (x ∷ xs) [] s t l y = absurd (l x y.0 y.1)
no_longer steps v (x ∷ xs) (part ∷ parts) s t l y = omega (arith, no_longer steps v xs parts y.0 t (l.1 x y.0 y.1).1 y.2)

module _ {S A : Type 0} {steps : S → Option A → S → Type 0} {v : A → List ℕ} {s : S} {parts : List (List ℕ)} (h : YieldsList steps v s parts)
    (p : Run steps) (e : p.from ≡ s) where
  at_most : p.len ≤ length parts
  unfolding YieldsRun
  at_most = omega (arith, p.long, no_longer steps v p.items parts s p.gave.0.0 h.runs (rw e at p.gave.0.1))

  -- A run to the end gives the parts.
  whole_run : p.whole ≡ true → map v p.items ≡ parts
  unfolding YieldsRun
  whole_run w = items_from_drains p.items (p.gave.0.0, rw e at p.gave.0.1, λ _. p.gave.0.2 w) h

  no_four : (IsTrue p.whole × (p.len < 4)) ⊎ (p.len ≡ 5) → length parts ≢ 4
  no_four (inl w) k = absurd (omega (arith, p.long, w.1, ap length (whole_run w.0), length-map p.items v))
  no_four (inr f) k = absurd (omega (arith, f, at_most))

-- Fewer or more than four say nothing.
not_four : (parts : List (List ℕ)) → length parts ≢ 4 → None ≡ four None four_of parts
not_four [] n = refl
not_four (a ∷ []) n = refl
not_four (a ∷ b ∷ []) n = refl
not_four (a ∷ b ∷ c ∷ []) n = refl
not_four (a ∷ b ∷ c ∷ d ∷ []) n = absurd (n refl)
not_four (a ∷ b ∷ c ∷ d ∷ e ∷ more) n = refl

-- What the library collects of a line that it cuts at its commas is what the line's fields say.
module _ {F : Type 0} {g : Mut F (Bor ℕ × Unit {0}) Bool} {f : F} (line : List ℕ) (s : Split ℕ F) where
  pub four_collected : (r : Option (FourFields (Bor (List ℕ))))
      → IfSome r (λ t. WholeRun (split_steps g) s (λ p. p.items ≡ t.0 ∷ t.1 ∷ t.2 ∷ t.3 ∷ []))
      → (IsNone r → SomeRun (split_steps g) s (λ p. (IsTrue p.whole × (p.len < 4)) ⊎ (p.len ≡ 5)))
      → split_rest s ≡ line → split_done s ≡ false → split_callee s ≡ f
      → ((y : ℕ) (b : Bool) (q : F) → CalledAt g f y b q → (q ≡ f) × (b ≡ eqb y 44))
      → fields_view r ≡ four None four_of (fields_of line)
  four_collected (Some t) some none rest done closure tests =
      rw (← whole_run (YieldsList-from_slice_split {s = s} g (λ y. eqb y 44) line rest done closure tests) some.0 some.1 some.2, some.3)
  four_collected None some none rest done closure tests =
      let n = none refl in
      not_four (fields_of line) (no_four (YieldsList-from_slice_split {s = s} g (λ y. eqb y 44) line rest done closure tests) n.0 n.1 n.2)
