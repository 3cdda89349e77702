-- A fresh register has the invariant: no block, nothing told, all words behind the head 0. The words that an accepted start leaves hold it.
use Rattle.std.specs.Prelude.{◌≡◌, refl, drop}
use Rattle.std.proofs.Math.Path.{ap}
use Rattle.std.proofs.Common.{◌∙◌, length-append}
use mathlib.Core.List.{List}
use Prim.Native.Nat.{ℕ, ◌%◌, zero, suc, ◌+◌, ◌-◌, ◌≤◌, ◌<◌}
use native.Mathlib.Omega.{arith}
use Rattle.std.proofs.Math.ListN.{get_or, length, replicate, length-drop, length-replicate, get_or-append, get_or-replicate}
use Rattle.std.proofs.Math.Seq.{get_or-drop, get_or-append-add}
use Rattle.base.specs.Bits.{bit_none}
use Rattle.layout.specs.declared.settings.Settings.{Settings}
use Rattle.layout.specs.declared.address.Address.TheVariants.{Head, Time, Dir, Field, Bits, Slot}
use Rattle.layout.specs.Settings.{Within}
use Rattle.layout.specs.Memory.{Memory}
use Rattle.layout.specs.Head.{head_words, fresh_head, with_head, cleared}
use Rattle.layout.specs.declared.address.Address.{Address}
use Rattle.layout.specs.Sizes.{head_len, layout_len}
use Rattle.layout.specs.Address.{offset, Valid}
use Rattle.layout.specs.AddressLaws.{offset_below}
use Rattle.layout.specs.Words.{read_word}
use Rattle.layout.specs.OverLaws.{over_read, over_good, may_valid}
use Rattle.layout.specs.HeadLaws.{head_written, length_head}
use Rattle.theory.specs.Timeline.{none}
use Rattle.theory.specs.State.{shape, NoneDue}
use Rattle.theory.specs.Rolling.{Full}
use Rattle.theory.specs.Stored.{Stored}

-- the memory that a start leaves
abbrev pub fresh_memory : Settings → Memory
fresh_memory s (Head j) = get_or (head_words (fresh_head s)) j 0
fresh_memory s (Time l i) = 0
fresh_memory s (Dir t) = 0
fresh_memory s (Field n j) = 0
fresh_memory s (Bits n w) = 0
fresh_memory s (Slot n k i) = 0

pub fresh_full : (s : Settings) → Within s → Full s NoneDue 0 0 0 (λ t tag. none) (shape (fresh_head s).cursor (fresh_memory s))
fresh_full s z = record {
  state = record {
    past = omega arith;
    links = record {
      first = refl;
      last = refl;
      childless = refl;
      opened = λ n a b. absurd (omega arith);
      row = λ n a b o. absurd (omega arith);
      next = λ n a o. absurd (omega arith);
      shut = λ n a o. absurd (o (let e : n ≡ 0 = omega arith in rw e));
    };
    index = record {
      rises = λ n a b. absurd (omega arith);
      each = λ i a. absurd (omega arith);
      pages = λ i a. absurd (omega arith);
      tops = λ i a. absurd (omega arith);
    };
    kept = record { good = λ n k p. absurd (omega arith); used = λ n k p. absurd (omega arith) };
    marked = record {
      unended = λ n k e. absurd (omega (arith, bit_none (k % 32)));
      marks = λ n k e. absurd (omega arith);
    };
    found = record { finds = λ n k e. absurd (omega arith); found = λ tag d. absurd (d refl) };
    told = record {
      sound = λ t n k o w. absurd (omega (arith, w.lasts));
      whole = λ t tag x o e. absurd (let z : ◌≡◌ {A = ℕ} 0 1 = cc in omega arith);
      once = λ t n k m j o w w' e. absurd (omega (arith, w.lasts));
    };
    calm = λ n k d w. omega arith;
  };
  useful = record { at = λ t n a b d e f g. absurd (omega arith) };
  within = z;
  fits = omega arith;
}

-- ---- the words that a start leaves
head_long : (s : Settings) → length (head_words (fresh_head s)) ≡ head_len
unfolding head_words
head_long s = refl

module _ (s : Settings) (ws : List ℕ) (long : layout_len s ≤ length ws) where
  after : List ℕ
  after = with_head (fresh_head s) (cleared s ws)

  -- a word of the head
  head_at : (j : ℕ) → j < head_len → get_or after j 0 ≡ get_or (head_words (fresh_head s)) j 0
  unfolding after with_head
  head_at j l = get_or-append (head_words (fresh_head s)) (drop head_len (cleared s ws)) 0 j (omega (arith, head_long s))

  -- a word of the layout behind it
  zero_at : (o : ℕ) → head_len ≤ o → o < layout_len s → get_or after o 0 ≡ 0
  unfolding after with_head cleared
  zero_at o a b =
      let e : o ≡ length (head_words (fresh_head s)) + (o - head_len) = omega (arith, head_long s) in
      let h : head_len + (o - head_len) ≡ o = omega arith in
      let zs : List ℕ = replicate (layout_len s) 0 in
      let l : o < length zs = omega (arith, length-replicate {A = ℕ} (layout_len s) 0) in
      ap (λ (j : ℕ). get_or after j 0) e ∙ get_or-append-add (head_words (fresh_head s)) (drop head_len (cleared s ws)) (o - head_len) 0
      ∙ get_or-drop head_len (cleared s ws) (o - head_len) 0 ∙ rw h (get_or-append (replicate (layout_len s) 0) (drop (layout_len s) ws) 0 o l ∙ get_or-replicate (layout_len s) o 0 0 b)

  behind : (a : Address) → Valid s a → head_len ≤ offset s a → get_or after (offset s a) 0 ≡ 0
  behind a v l = zero_at (offset s a) l (offset_below s a v)

  reads : (a : Address) → Valid s a → get_or after (offset s a) 0 ≡ fresh_memory s a
  reads (Head j) v = head_at j v
  reads (Time zero i) v = behind (Time 0 i) v (omega arith)
  reads (Time (suc zero) i) v = behind (Time 1 i) v (omega arith)
  reads (Time (suc (suc l)) i) v = behind (Time (suc (suc l)) i) v (omega arith)
  reads (Dir t) v = behind (Dir t) v (omega arith)
  reads (Field n j) v = behind (Field n j) v (omega arith)
  reads (Bits n w) v = behind (Bits n w) v (omega arith)
  reads (Slot n k i) v = behind (Slot n k i) v (omega arith)

  read_at : (a : Address) → Valid s a → read_word s after a ≡ fresh_memory s a
  unfolding read_word
  read_at a v = reads a v

  cleared_length : length (cleared s ws) ≡ length ws
  unfolding cleared
  cleared_length = simp (length-append, length-drop, length-replicate) (omega arith)

  pub started_length : head_len ≤ length ws → length (with_head (fresh_head s) (cleared s ws)) ≡ length ws
  started_length l = length_head (fresh_head s) (cleared s ws) (omega (arith, cleared_length)) ∙ cleared_length

  pub started : Within s → head_len ≤ length ws → Stored (with_head (fresh_head s) (cleared s ws)) (fresh_head s) (fresh_memory s)
  unfolding after
  started w l = record {
    read = head_written (fresh_head s) (cleared s ws)
        (record { within = w; opened = omega arith; clock = omega arith; fill = omega arith; none = λ e. refl; some = λ e. absurd (omega arith) })
        (omega (arith, cleared_length));
    agree = record {
      good = over_good s (record { long = omega (arith, started_length l) });
      same = record { at = λ a m. over_read s after a ∙ read_at a (may_valid s a m) };
    };
  }
