-- Reading digits one by one, from place i of a field on.
use Rattle.std.specs.Prelude.{◌≡◌, List, ◌∷◌, ℕ, suc, ◌+◌, ◌*◌, ◌-◌, ◌≤◌, ◌<◌, length, get_or, drop, Some, None}
use Rattle.std.proofs.Common.{sym, ◌∙◌, inl, inr, arith, add-one, drop_of_length-le, drop-cons, lt-ltb, le-ltb}
use Rattle.std.specs.Char.{IsAsciiDigit, IsNotAsciiDigit}
use Rattle.console_text.specs.Decimal.{read_on, number_of}

-- The number of a field is what is left of it, from place i on, read on from v.
pub record ReadTo (most : ℕ) (field : List ℕ) (v i : ℕ) : Type 0 where
  pub within : i ≤ length field
  pub small : v ≤ most
  pub is : number_of most field ≡ read_on most v (drop i field)

module _ {most v i : ℕ} {field : List ℕ} (r : ReadTo most field v i) (h : i < length field) where
  -- The byte at i is the next.
  here : number_of most field ≡ read_on most v (get_or field i 0 ∷ drop (suc i) field)
  here = r.is ∙ rw (drop-cons field i 0 h)

  -- No digit, or a number beyond `most`: none.
  pub read_other : IsNotAsciiDigit (get_or field i 0) → None ≡ number_of most field
  unfolding read_on
  read_other (inl a) = sym (here ∙ rw (lt-ltb (get_or field i 0) 48 a))
  read_other (inr b) = sym (here ∙ rw (le-ltb (get_or field i 0) 48 (omega arith), lt-ltb 57 (get_or field i 0) b))

  pub read_over : IsAsciiDigit (get_or field i 0) → most < 10 * v + (get_or field i 0 - 48) → None ≡ number_of most field
  unfolding read_on
  read_over d o = sym (here ∙ rw (le-ltb (get_or field i 0) 48 d.0, le-ltb 57 (get_or field i 0) d.1, lt-ltb most (10 * v + (get_or field i 0 - 48)) o))

  -- A digit more.
  pub read_next : IsAsciiDigit (get_or field i 0) → {w : ℕ} → w ≡ 10 * v + (get_or field i 0 - 48) → w ≤ most → ReadTo most field w (i + 1)
  unfolding read_on
  read_next d {w} e o = record {
    within = omega arith;
    small = o;
    is = here ∙ rw (le-ltb (get_or field i 0) 48 d.0, le-ltb 57 (get_or field i 0) d.1, ← e, le-ltb most w o, add-one);
  }

pub read_end : {most v i : ℕ} {field : List ℕ} → ReadTo most field v i → length field ≤ i → Some v ≡ number_of most field
unfolding read_on
read_end {i = i} {field = field} r h = sym (r.is ∙ rw (drop_of_length-le field h))

pub ruleset digits = (read_other, read_over, read_next, read_end)
