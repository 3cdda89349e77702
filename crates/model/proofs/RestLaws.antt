-- Two slices compared from a place on, as `a.get(i..) == b.get(i..)` does.
use Rattle.std.proofs.Common.{◌≡◌, ◌-◌, ◌∙◌, sym, arith, refl, ℕ, Bool, true, false, List, length, drop, take, Option, Some, None, IsTrue, nat_eq}
use Rattle.std.proofs.lemmas.List.{take_all, drop_all, length-drop}
use Rattle.std.specs.Bool.{MatchBool}
use Rattle.std.specs.Cmp.Lexicographic.{pointwise, same_text, told_text}
use Rattle.std.specs.Option.{option_eq}
use Rattle.std.specs.Slice.{IsGetRangeResult}
use denote.Ref.{Bor}

abbrev pub same_now : Bor (List ℕ) → Bor (List ℕ) → Bool
same_now x y = pointwise nat_eq x.now y.now

-- The part of a slice from a place to its end is its rest.
pub part_rest : (xs : List ℕ) (i : ℕ) → take (length xs - i) (drop i xs) ≡ drop i xs
part_rest xs i = take_all (length xs - i) (drop i xs) (omega (arith, length-drop i xs))

-- If they compare as equal, they are the same from there on.
pub same_rests : (xs ys : List ℕ) (i : ℕ) (a b : Option (Bor (List ℕ))) → IsGetRangeResult xs i (length xs) a
    → IsGetRangeResult ys i (length ys) b → IsTrue (option_eq same_now a b) → drop i xs ≡ drop i ys
same_rests xs ys i None None p q e = drop_all i xs (omega (arith, p.0)) ∙ sym (drop_all i ys (omega (arith, q.0)))
same_rests xs ys i None (Some y) p q e = cc
same_rests xs ys i (Some x) None p q e = cc
same_rests xs ys i (Some x) (Some y) p q e =
    sym (p.0.2 ∙ part_rest xs i) ∙ same_text x.now y.now (sym e) ∙ (q.0.2 ∙ part_rest ys i)

told_true : (r : Bool) (P : Type 0) → MatchBool r P (P → ⊥) → P → IsTrue r
told_true true P m p = refl
told_true false P m p = absurd (m p)

-- Of slices that are as long, those that are the same from there on compare as equal.
pub equal_rests : (xs ys : List ℕ) (i : ℕ) (a b : Option (Bor (List ℕ))) → IsGetRangeResult xs i (length xs) a
    → IsGetRangeResult ys i (length ys) b → length xs ≡ length ys → drop i xs ≡ drop i ys → IsTrue (option_eq same_now a b)
equal_rests xs ys i None None p q n e = refl
equal_rests xs ys i None (Some y) p q n e = absurd (omega (arith, p.0, q.0))
equal_rests xs ys i (Some x) None p q n e = absurd (omega (arith, p.0, q.0))
equal_rests xs ys i (Some x) (Some y) p q n e =
    told_true (pointwise nat_eq x.now y.now) (x.now ≡ y.now) (told_text x.now y.now (pointwise nat_eq x.now y.now) refl)
    (p.0.2 ∙ part_rest xs i ∙ e ∙ sym (q.0.2 ∙ part_rest ys i))
