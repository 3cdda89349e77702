-- The places of the ones of a word as an ascending list: its length is `ones`, its first place `count_trailing_zeros`.
-- Where the bits say of which numbers p holds, it is the list of these.
use Rattle.std.specs.Prelude.{◌≡◌, refl, List, [], ◌∷◌, ◌++◌, ℕ, zero, suc, ◌+◌, ◌*◌, ◌-◌, ◌/◌, ◌%◌, ◌^◌, ◌≤◌, ◌<◌, length}
use Rattle.std.proofs.Common.{sym, ◌∙◌, arith, pow-suc}
use Rattle.std.specs.Int.Bits.{bit_and, and_step, and_self}
use Rattle.std.specs.Int.Count.{count_trailing_zeros, ones, ones_step}
use Rattle.base.specs.Branch.{is?, lt?}
use Rattle.base.specs.Sums.{All, nil, cons}
use Rattle.base.specs.Bits.{bit_at, half_more, even_more, bit_back, bit_off}

-- i in front, where the bit r is 1.
abbrev pub cons_bit : ℕ → ℕ → List ℕ → List ℕ
cons_bit zero i l = l
cons_bit (suc r) i l = i ∷ l

-- The places, ascending and counted from i, of the ones among the d lowest bits of x.
unfoldable pub bits_from : ℕ → ℕ → ℕ → List ℕ
bits_from zero i x = []
bits_from (suc d) i x = cons_bit (x % 2) i (bits_from d (i + 1) (x / 2))

cons_length : (r i : ℕ) (l : List ℕ) → r < 2 → length (cons_bit r i l) ≡ r + length l
cons_length zero i l h = omega arith
cons_length (suc r) i l h = omega arith

bits_step : (d i x : ℕ) → length (bits_from (suc d) i x) ≡ x % 2 + length (bits_from d (i + 1) (x / 2))
unfolding bits_from
bits_step d i x = cons_length (x % 2) i (bits_from d (i + 1) (x / 2)) (omega arith)

pub bits_zero : (d i : ℕ) → bits_from d i 0 ≡ []
unfolding bits_from
bits_zero zero i = refl
bits_zero (suc d) i = bits_zero d (i + 1)

-- They are as many as the ones.
pub bits_length : (d i x : ℕ) → x < 2 ^ d → length (bits_from d i x) ≡ ones x
unfolding bits_from ones
bits_length zero i x h = let e : x ≡ 0 = omega arith in rw e
bits_length (suc d) i x h =
    omega (arith, bits_step d i x, ones_step x, bits_length d (i + 1) (x / 2) (omega (arith, pow-suc 2 d)))

-- One bit more, one place more; one bit fewer, one place fewer.
pub bits_on : (d i k x : ℕ) → k < d → bit_at k x ≡ 0 → length (bits_from d i (x + 2 ^ k)) ≡ length (bits_from d i x) + 1
unfolding bit_at
bits_on zero i k x a h = absurd (omega arith)
bits_on (suc d) i zero x a h =
    let e : (x + 2 ^ 0) / 2 ≡ x / 2 = omega arith in
    rw (bits_step d i (x + 2 ^ 0), bits_step d i x, e) (omega arith)
bits_on (suc d) i (suc k) x a h =
    rw (bits_step d i (x + 2 ^ suc k), bits_step d i x, half_more, even_more)
    (omega (arith, bits_on d (i + 1) k (x / 2) (omega arith) h))

pub bits_off : (d i k x : ℕ) → k < d → bit_at k x ≡ 1 → length (bits_from d i (x - 2 ^ k)) + 1 ≡ length (bits_from d i x)
bits_off d i k x a h = sym (rw (bit_back k x h) at (bits_on d i k (x - 2 ^ k) a (bit_off k x h)))

-- Each is below every bound of the places looked at.
pub bits_below : (d i x n : ℕ) → i + d ≤ n → All (λ k. k < n) (bits_from d i x)
unfolding bits_from
bits_below zero i x n h = nil
bits_below (suc d) i x n h = go (x % 2) (bits_below d (i + 1) (x / 2) n (omega arith))
  where
    go : (r : ℕ) {l : List ℕ} → All (λ k. k < n) l → All (λ k. k < n) (cons_bit r i l)
    go zero a = a
    go (suc r) a = let p : i < n = omega arith in cons p a

-- ---- the lowest one

-- x without its lowest one.
abbrev pub lower_off : ℕ → ℕ
lower_off x = bit_and x (x - 1)

-- The lowest one of an even word is that of its half, and of an odd word its last bit.
even_off : (x : ℕ) → 0 < x → x % 2 ≡ 0 → lower_off x ≡ lower_off (x / 2) * 2
even_off x p e =
    let a : (x - 1) % 2 ≡ 1 = omega arith in
    let b : (x - 1) / 2 ≡ x / 2 - 1 = omega arith in
    let s : lower_off x ≡ bit_and (x / 2) (x / 2 - 1) * 2 + 0 = and_step x (x - 1) ∙ rw (e, a, b) in
    omega arith

odd_off : (x : ℕ) → x % 2 ≡ 1 → lower_off x ≡ x / 2 * 2
odd_off x e =
    let a : (x - 1) % 2 ≡ 0 = omega arith in
    let b : (x - 1) / 2 ≡ x / 2 = omega arith in
    let s : lower_off x ≡ x / 2 * 2 + 0 = and_step x (x - 1) ∙ rw (e, a, b, and_self) in
    omega arith

-- The lowest one of a word of d bits stands at place k.
record Lowest (d x k : ℕ) : Type 0 where
  low : k < d
  one : bit_at k x ≡ 1
  off : lower_off x ≡ x - 2 ^ k
  rest : (i : ℕ) → bits_from d i x ≡ (i + k) ∷ bits_from d i (lower_off x)

lowest_even : {d k : ℕ} (x : ℕ) → 0 < x → x % 2 ≡ 0 → Lowest d (x / 2) k → Lowest (suc d) x (suc k)
unfolding bit_at bits_from
lowest_even {d} {k} x p e l =
    let o = even_off x p e in
    let z : lower_off x % 2 ≡ 0 = omega arith in
    let half : lower_off x / 2 ≡ lower_off (x / 2) = omega arith in
    record {
      low = omega arith;
      one = l.one;
      off = omega (arith, pow-suc 2 k);
      rest = λ i. let n : i + suc k ≡ i + 1 + k = omega arith in rw (e, z, half, n) (l.rest (i + 1));
    }

lowest_odd : (d x : ℕ) → x % 2 ≡ 1 → Lowest (suc d) x 0
unfolding bit_at bits_from
lowest_odd d x e =
    let o = odd_off x e in
    let z : lower_off x % 2 ≡ 0 = omega arith in
    let half : lower_off x / 2 ≡ x / 2 = omega arith in
    record {
      low = omega arith;
      one = e;
      off = omega arith;
      rest = λ i. let n : i + 0 ≡ i = omega arith in rw (e, z, half, n);
    }

lowest : (d x : ℕ) → 0 < x → x < 2 ^ d → Lowest d x (count_trailing_zeros d x)
unfolding count_trailing_zeros
lowest zero x p h = absurd (omega arith)
lowest (suc d) x p h = is? (x % 2) 0
    (λ e. rw e (lowest_even x p e (lowest d (x / 2) (omega arith) (omega (arith, pow-suc 2 d)))))
    (λ n. let e : x % 2 ≡ 1 = omega arith in rw e (lowest_odd d x e))

-- Where a word of d bits has a one, `count_trailing_zeros` finds the lowest, and it is the first place of the list; the
-- word without it has the rest.
pub next_below : (d x : ℕ) → 0 < x → x < 2 ^ d → count_trailing_zeros d x < d
next_below d x p h = (lowest d x p h).low

pub bits_next : (d i x : ℕ) → 0 < x → x < 2 ^ d → bits_from d i x ≡ (i + count_trailing_zeros d x) ∷ bits_from d i (lower_off x)
bits_next d i x p h = (lowest d x p h).rest i

-- ---- the list of the numbers of which p holds

-- l has, in order, the numbers from lo below hi of which p holds.
pub data Lists (p : ℕ → Type 0) : ℕ → ℕ → List ℕ → Type 0 where
  none : {lo hi : ℕ} → ((k : ℕ) → lo ≤ k → k < hi → p k → ⊥) → Lists p lo hi []
  more : {lo hi k : ℕ} {l : List ℕ} → lo ≤ k → k < hi → p k → ((j : ℕ) → lo ≤ j → j < k → p j → ⊥)
      → Lists p (k + 1) hi l → Lists p lo hi (k ∷ l)

module _ {p : ℕ → Type 0} where
  -- Where p holds of nothing between, the list starts earlier.
  pub lists_from : {lo mid hi : ℕ} {l : List ℕ} → lo ≤ mid → ((k : ℕ) → lo ≤ k → k < mid → p k → ⊥)
      → Lists p mid hi l → Lists p lo hi l
  lists_from {mid = mid} a g (none h) = none (λ k b c. lt? k mid (g k b) (λ d. h k d c))
  lists_from {lo} {mid} a g (more {k = k} b c o h q) =
      let e : lo ≤ k = omega arith in more e c o (λ j d f. lt? j mid (g j d) (λ u. h j u f)) q

  pub lists_append : {lo mid hi : ℕ} {l m : List ℕ} → lo ≤ mid → mid ≤ hi
      → Lists p lo mid l → Lists p mid hi m → Lists p lo hi (l ++ m)
  lists_append a c (none g) q = lists_from a g q
  lists_append {hi = hi} a c (more {k = k} b d o g r) q =
      let e : k < hi = omega arith in more b e o g (lists_append (omega arith) c r q)

-- If bit j of x says whether p holds of i + j, the places of the ones of x, counted from i, are that list.
pub bits_list : {p : ℕ → Type 0} (d i x : ℕ) → ((j : ℕ) → j < d → bit_at j x ≡ 1 → p (i + j))
    → ((j : ℕ) → j < d → p (i + j) → bit_at j x ≡ 1) → Lists p i (i + d) (bits_from d i x)
unfolding bit_at bits_from
bits_list zero i x a b = none {lo = i} {hi = i + 0} (λ k c e o. omega arith)
bits_list {p} (suc d) i x a b = rw (later d) (go (x % 2) refl (omega arith) (bits_list d (i + 1) (x / 2) up down))
  where
    later : (j : ℕ) → i + suc j ≡ i + 1 + j
    later j = omega arith

    up : (j : ℕ) → j < d → bit_at j (x / 2) ≡ 1 → p (i + 1 + j)
    up j c e = rw (later j) at (a (suc j) (omega arith) e)

    down : (j : ℕ) → j < d → p (i + 1 + j) → bit_at j (x / 2) ≡ 1
    down j c o = b (suc j) (omega arith) (rw (later j) o)

    here : (k : ℕ) → i ≤ k → k < i + 1 → k ≡ i + 0
    here k c f = omega arith

    go : (r : ℕ) {l : List ℕ} → x % 2 ≡ r → r < 2
        → Lists p (i + 1) (i + 1 + d) l → Lists p i (i + 1 + d) (cons_bit r i l)
    go zero e h q = lists_from (omega arith) (λ k c f o. omega (arith, b 0 (omega arith) (rw (here k c f) at o))) q
    go (suc r) e h q =
        let u : i ≤ i = omega arith in
        let w : i < i + 1 + d = omega arith in
        let o : p i = rw (← here i u (omega arith)) at (a 0 (omega arith) (omega arith)) in
        more u w o (λ j c f o. omega arith) q
