-- Lists in which no key stands twice: two of them with the same members have the same rows, order aside, and their keys are a list without repetition.
-- Lists joined one after another: their sums, their members, and that no key stands twice in them. Before these, more of the sums of base.
use Rattle.std.specs.Prelude.{◌≡◌, ◌⊎◌, eqb}
use Rattle.std.proofs.Math.Path.{refl}
use Rattle.std.proofs.Common.{sym, ap, ◌∙◌, inl, inr, arith, eq-eqb, ne_eqb}
use mathlib.Core.List.Memᴰ
use mathlib.Core.List.{List, [], ◌∷◌, map, ◌++◌, Nodup, Memᴰ}
use Prim.Native.Nat.{ℕ, zero, suc, ◌≤◌, ◌<◌, ◌+◌}
use Rattle.base.specs.Branch.{lt?, is?, eqb_same}
use Rattle.base.specs.Lists.{joined}
use Rattle.base.specs.Sums.{total, totals, upto, upto_suc, sum_to, All, nil, cons, is}
use Rattle.base.specs.Pigeonhole.{keyed}
use Rattle.base.specs.SameRows.{Same, once_nodup}

-- The weight of a member's image.
pub total_map : {A B : Type 0} (w : B → ℕ) (f : A → B) (l : List A) → total w (map f l) ≡ total (λ x. w (f x)) l
total_map w f [] = simp totals
total_map w f (x ∷ l) = simp totals (omega (arith, total_map w f l))

-- From 1 to n is below n, one up.
pub sum_to_below : (w : ℕ → ℕ) (n : ℕ) → sum_to n w ≡ upto (λ k. w (suc k)) n
unfolding sum_to upto
sum_to_below w zero = refl
sum_to_below w (suc n) = omega (arith, sum_to_below w n)

-- More numbers have no smaller sum.
pub upto_grows : (w : ℕ → ℕ) (a b : ℕ) → a ≤ b → upto w a ≤ upto w b
upto_grows w a zero h = let e : a ≡ 0 = omega arith in rw e (omega arith)
upto_grows w a (suc b) h = lt? b a
    (λ p. let e : a ≡ suc b = omega arith in rw e (omega arith))
    (λ p. simp upto_suc (omega (arith, upto_grows w a b p)))

-- Where a sum is not 0, one of its weights is not.
pub record Some (w : ℕ → ℕ) (b : ℕ) : Type 0 where
  pub at : ℕ
  pub below : at < b
  pub positive : 0 < w at

pub upto_some : (w : ℕ → ℕ) (b : ℕ) → 0 < upto w b → Some w b
unfolding upto
upto_some w zero h = absurd (omega arith)
upto_some w (suc b) h = lt? 0 (w b)
    (λ p. record { at = b; below = omega arith; positive = p })
    (λ p. let s = upto_some w b (omega arith) in record { at = s.at; below = omega (arith, s.below); positive = s.positive })

-- Weights of at most 1, no two of them positive: their sum is at most 1.
pub upto_one : (w : ℕ → ℕ) (b : ℕ) → ((k : ℕ) → k < b → w k ≤ 1)
    → ((k i : ℕ) → k < b → i < b → 0 < w k → 0 < w i → k ≡ i) → upto w b ≤ 1
unfolding upto
upto_one w zero most alone = omega arith
upto_one w (suc b) most alone =
    let below = upto_one w b (λ k h. most k (omega arith)) (λ k i h j. alone k i (omega arith) (omega arith)) in
    lt? 0 (upto w b)
    (λ p.
    let s = upto_some w b p in
    lt? 0 (w b)
    (λ q. absurd (omega (arith, alone s.at b (omega (arith, s.below)) (omega arith) s.positive q, s.below)))
    (λ q. omega arith))
    (λ p. omega (arith, most b (omega arith)))

-- ---- no key twice
-- no key stands twice
pub record Unique {A : Type 0} (key : A → ℕ) (l : List A) : Type 0 where
  pub once : (m : ℕ) → keyed key m l ≤ 1

-- every member of the one is a member of the other
abbrev pub Among : {A : Type 0} → List A → List A → Type 0
Among {A} l m = (x : A) → Memᴰ x l → Memᴰ x m

-- what holds of the members
pub all_members : {A : Type 0} {P : A → Type 0} (l : List A) → ((x : A) → Memᴰ x l → P x) → All P l
all_members [] f = nil
all_members (x ∷ l) f = cons (f x (Memᴰ.head refl)) (all_members l (λ y i. f y (Memᴰ.tail i)))

-- m has x between two parts
record Around {A : Type 0} (x : A) (m : List A) : Type 0 where
  before : List A
  after : List A
  is_split : m ≡ before ++ (x ∷ after)

around : {A : Type 0} {x : A} {m : List A} → Memᴰ x m → Around x m
around (Memᴰ.head {xs = m} e) = record { before = []; after = m; is_split = rw e }
around {A} (Memᴰ.tail {x = y} i) =
    let s = around i in
    record { before = y ∷ s.before; after = s.after; is_split = ap (λ (l : List A). y ∷ l) s.is_split }

module _ {A : Type 0} (key : A → ℕ) where
  pub unique_nil : Unique key []
  unique_nil = record { once = λ m. simp totals (omega arith) }

  -- The keys have no repetition.
  pub unique_nodup : {l : List A} → Unique key l → Nodup (map key l)
  unique_nodup {l} u = once_nodup (λ m. rw (total_map (λ n. is (eqb m n)) key l) (u.once m))

  -- A member's key is counted.
  pub member_counted : {x : A} {l : List A} → Memᴰ x l → 0 < keyed key (key x) l
  member_counted {x} (Memᴰ.head {x = y} e) = simp (totals, eq-eqb (key x) (key y) (ap key e)) (omega arith)
  member_counted (Memᴰ.tail i) = simp totals (omega (arith, member_counted i))

  -- And a key that is counted is a member's.
  pub record Counted (m : ℕ) (l : List A) : Type 0 where
    pub of : A
    pub member : Memᴰ of l
    pub has_key : key of ≡ m

  pub counted_member : (m : ℕ) (l : List A) → 0 < keyed key m l → Counted m l
  counted_member m [] h = absurd (omega (arith, simp totals at h))
  counted_member m (x ∷ l) h = is? m (key x)
      (λ e. record { of = x; member = Memᴰ.head refl; has_key = sym e })
      (λ d.
      let c = counted_member m l (omega (arith, simp (totals, ne_eqb m (key x) d) at h)) in
      record { of = c.of; member = Memᴰ.tail c.member; has_key = c.has_key })

  module _ (x : A) (a b : List A) (u : Unique key (a ++ (x ∷ b))) where
    counted : (m : ℕ) → keyed key m a + (is (eqb m (key x)) + keyed key m b) ≤ 1
    counted m = simp totals at (u.once m)

    -- Without x no key stands twice, and none is that of x.
    unique_rest : Unique key (a ++ b)
    unique_rest = record { once = λ m. simp totals (omega (arith, counted m)) }

    other_member : {y : A} → Memᴰ y (a ++ b) → y ≡ x → ⊥
    other_member i e = omega (arith, simp eqb_same at (counted (key x)), simp totals at (member_counted (rw e at i)))

    -- A member that is not x is one of the rest.
    member_rest : {y : A} → Memᴰ y (a ++ (x ∷ b)) → (y ≡ x → ⊥) → Memᴰ y (a ++ b)
    member_rest {y} i d = go (Memᴰ.append_cases a i)
      where
        on : (y ≡ x) ⊎ Memᴰ y b → Memᴰ y (a ++ b)
        on (inl e) = absurd (d e)
        on (inr j) = Memᴰ.append_right a j

        go : Memᴰ y a ⊎ Memᴰ y (x ∷ b) → Memᴰ y (a ++ b)
        go (inl j) = Memᴰ.append_left b j
        go (inr j) = on (Memᴰ.cases_cons j)

    rest_member : {y : A} → Memᴰ y (a ++ b) → Memᴰ y (a ++ (x ∷ b))
    rest_member {y} i = go (Memᴰ.append_cases a i)
      where
        go : Memᴰ y a ⊎ Memᴰ y b → Memᴰ y (a ++ (x ∷ b))
        go (inl j) = Memᴰ.append_left (x ∷ b) j
        go (inr j) = Memᴰ.append_right a (Memᴰ.tail j)

  -- The members of the rests are the same.
  among_rest : (x : A) (a b c d : List A) → Unique key (a ++ (x ∷ b)) → Unique key (c ++ (x ∷ d))
      → Among (a ++ (x ∷ b)) (c ++ (x ∷ d)) → Among (a ++ b) (c ++ d)
  among_rest x a b c d u v s y i = member_rest x c d v (s y (rest_member x a b u i)) (other_member x a b u i)

  -- The same members, no key twice: the same rows.
  pub same_members : (l m : List A) → Unique key l → Unique key m → Among l m → Among m l → Same l m
  same_members [] [] u v f g = record { sums = λ w. refl }
  same_members [] (y ∷ m) u v f g = absurd (Memᴰ.not-nil (g y (Memᴰ.head refl)))
  same_members (x ∷ l) m u v f g =
      let s = around (f x (Memᴰ.head refl)) in
      let v' : Unique key (s.before ++ (x ∷ s.after)) = rw s.is_split at v in
      let r = same_members l (s.before ++ s.after) (unique_rest x [] l u) (unique_rest x s.before s.after v')
      (among_rest x [] l s.before s.after u v' (rw s.is_split at f))
      (among_rest x s.before s.after [] l v' u (rw s.is_split at g)) in
      record { sums = λ w. rw s.is_split (simp totals (omega (arith, simp totals at (r.sums w)))) }

-- ---- lists joined one after another, f 0, f 1, .. up to the n-th
module _ {A : Type 0} (f : ℕ → List A) where
  pub total_joined : (w : A → ℕ) (n : ℕ) → total w (joined f n) ≡ upto (λ k. total w (f k)) n
  unfolding joined upto
  total_joined w zero = simp totals
  total_joined w (suc n) = simp totals (omega (arith, total_joined w n))

  -- Empty lists join to an empty one.
  pub joined_nil : (n : ℕ) → ((k : ℕ) → k < n → f k ≡ []) → joined f n ≡ []
  unfolding joined
  joined_nil zero h = refl
  joined_nil (suc n) h = rw (joined_nil n (λ k p. h k (omega arith)), h n (omega arith))

  -- A member stands in one of the lists, and so back.
  pub record MemberOf (x : A) (n : ℕ) : Type 0 where
    pub at : ℕ
    pub below : at < n
    pub member : Memᴰ x (f at)

  pub joined_members : (x : A) (n : ℕ) → Memᴰ x (joined f n) → MemberOf x n
  unfolding joined
  joined_members x zero i = absurd (Memᴰ.not-nil i)
  joined_members x (suc n) i = go (joined_members x n) (Memᴰ.append_cases (joined f n) i)
    where
      go : (Memᴰ x (joined f n) → MemberOf x n) → Memᴰ x (joined f n) ⊎ Memᴰ x (f n) → MemberOf x (suc n)
      go before (inl j) = let m = before j in record { at = m.at; below = omega (arith, m.below); member = m.member }
      go before (inr j) = record { at = n; below = omega arith; member = j }

  pub members_joined : (x : A) (n k : ℕ) → k < n → Memᴰ x (f k) → Memᴰ x (joined f n)
  unfolding joined
  members_joined x zero k h i = absurd (omega arith)
  members_joined x (suc n) k h i = is? k n
      (λ e. Memᴰ.append_right (joined f n) (rw e at i))
      (λ d. Memᴰ.append_left (f n) (members_joined x n k (omega arith) i))

  -- No key twice in one list, and none in two of them: none twice at all.
  pub unique_joined : (key : A → ℕ) (n : ℕ) → ((k : ℕ) → k < n → Unique key (f k))
      → ((k i : ℕ) (x y : A) → k < n → i < n → Memᴰ x (f k) → Memᴰ y (f i) → key x ≡ key y → k ≡ i) → Unique key (joined f n)
  unique_joined key n unique apart = record {
    once = λ m. rw (total_joined _ n) (upto_one (λ k. keyed key m (f k)) n (λ k h. (unique k h).once m)
        (λ k i h j p q.
        let x = counted_member key m (f k) p in
        let y = counted_member key m (f i) q in
        apart k i x.of y.of h j x.member y.member (x.has_key ∙ sym y.has_key)));
  }
