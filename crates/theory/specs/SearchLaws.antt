-- Where opening seconds rise and the index holds them, the search ends: no lower page is without an entry up to t, and the block found is the last
-- that opened by t (finds). The page below an entry begins with that very entry.
use Rattle.std.specs.Prelude.{◌≡◌, List, [], ◌∷◌, leb, get_or}
use Rattle.std.proofs.Math.Path.{refl, ap}
use Rattle.std.proofs.Common.{◌∙◌, add-one, leb-true, leb-false}
use Prim.Native.Nat.{ℕ, zero, suc, ◌+◌, ◌*◌, ◌-◌, ◌≤◌, ◌<◌, min}
use native.Mathlib.Omega.{arith}
use Rattle.base.specs.Branch.{cond_all, is?, lt?}
use Rattle.layout.specs.Sizes.{page_len}
use Rattle.calls.specs.Walk.{Reader, Pass, last_up_to, entries, top_level, look_up}
use Rattle.theory.specs.FoundWalk.{Descent, ground, down, Search, empty, before, onto}

-- ---- one page

-- of the first k words of a page, none is up to t, or word j is the last that is
pub data Last (t k : ℕ) (page : List ℕ) : ℕ → Type 0 where
  nowhere : ((i : ℕ) → i < k → t < get_or page i 0) → Last t k page 0
  at : {j : ℕ} → j < k → get_or page j 0 ≤ t → ((i : ℕ) → j < i → i < k → t < get_or page i 0) → Last t k page (suc j)

-- one word more that is after t
after_too : (t k : ℕ) (page : List ℕ) → t < get_or page k 0 → (i : ℕ) → i < suc k → (i < k → t < get_or page i 0) → t < get_or page i 0
after_too t k page h i p f = lt? i k f (λ q. let e : i ≡ k = omega arith in rw e h)

last_more : (t k : ℕ) (page : List ℕ) → t < get_or page k 0 → {x : ℕ} → Last t k page x → Last t (suc k) page x
last_more t k page h (nowhere f) = nowhere (λ i p. after_too t k page h i p (f i))
last_more t k page h (at {j} p q f) = at {j = j} (omega arith) q (λ i r s. after_too t k page h i s (f i r))

pub last_is : (t k : ℕ) (page : List ℕ) → Last t k page (last_up_to t k page)
unfolding last_up_to
last_is t zero page = nowhere (λ i h. absurd (omega arith))
last_is t (suc k) page = cond_all (Last t (suc k) page) (leb (get_or page k 0) t)
    (λ e. at {j = k} (omega arith) (leb-true _ t e) (λ i p q. absurd (omega arith)))
    (λ e. last_more t k page (leb-false _ t e) (last_is t k page))

-- ---- the levels

module _ (opened : ℕ) where
  pub top_small : opened ≤ 4096 → entries opened (top_level opened) ≤ page_len
  unfolding top_level entries
  top_small h = cond_all (λ l. entries opened l ≤ page_len) (leb (entries opened 0) page_len) (leb-true _ page_len)
      (λ e. cond_all (λ l. entries opened l ≤ page_len) (leb (entries opened 1) page_len) (leb-true _ page_len) (λ e₁. omega arith))

  pub top_below : top_level opened < 3
  unfolding top_level
  top_below = cond_all (λ l. l < 3) (leb (entries opened 0) page_len) (λ e. omega arith)
      (λ e. cond_all (λ l. l < 3) (leb (entries opened 1) page_len) (λ e₁. omega arith) (λ e₁. omega arith))

  entries_some : 0 < opened → (l : ℕ) → 0 < entries opened l
  unfolding entries
  entries_some h zero = h
  entries_some h (suc l) = omega (arith, entries_some h l)

-- entry i of level l, where block n opened at `seconds n`: each level has every sixteenth of the level below it
unfoldable pub entry : (ℕ → ℕ) → ℕ → ℕ → ℕ
entry seconds zero i = seconds (suc i)
entry seconds (suc l) i = entry seconds l (page_len * i)

entry_first : (seconds : ℕ → ℕ) (l : ℕ) → entry seconds l 0 ≡ seconds 1
unfolding entry
entry_first seconds zero = refl
entry_first seconds (suc l) = entry_first seconds l

-- Three levels that have the second of block 1 + i, 1 + 16 i and 1 + 256 i have these entries.
pub levels_hold : (opened : ℕ) (seconds : ℕ → ℕ) (word : ℕ → ℕ → ℕ)
    → ((i : ℕ) → 1 * i < opened → word 0 i ≡ seconds (1 + 1 * i))
    → ((i : ℕ) → page_len * i < opened → word 1 i ≡ seconds (1 + page_len * i))
    → ((i : ℕ) → page_len * page_len * i < opened → word 2 i ≡ seconds (1 + page_len * page_len * i))
    → (l i : ℕ) → l < 3 → i < entries opened l → word l i ≡ entry seconds l i
unfolding entry entries
levels_hold opened seconds word f g h zero i three p = f i (omega arith) ∙ ap seconds (omega arith)
levels_hold opened seconds word f g h (suc zero) i three p = g i (omega arith) ∙ ap seconds (omega arith)
levels_hold opened seconds word f g h (suc (suc zero)) i three p = h i (omega arith) ∙ ap seconds (omega arith)
levels_hold opened seconds word f g h (suc (suc (suc l))) i three p = absurd (omega arith)

-- ---- the search

-- the greatest of `count` entries that is not after t
pub record Best (t : ℕ) (seconds : ℕ → ℕ) (count g : ℕ) : Type 0 where
  pub small : g < count
  pub begun : seconds g ≤ t
  pub after : (i : ℕ) → g < i → i < count → t < seconds i

module _ (t opened : ℕ) (R : Reader) (seconds : ℕ → ℕ)
    (rises : (n : ℕ) → 1 ≤ n → n < opened → seconds n ≤ seconds (n + 1))
    (holds : (l e j : ℕ) → l < 3 → j < page_len → page_len * e + j < entries opened l
    → get_or (R.page l e) j 0 ≡ entry seconds l (page_len * e + j)) where
  -- seconds rise over any distance, on the ground and so on every level
  sorted : (n m : ℕ) → 1 ≤ n → n ≤ m → m ≤ opened → seconds n ≤ seconds m
  sorted n zero p q r = absurd (omega arith)
  sorted n (suc m) p q r = is? n (suc m)
      (λ e. let z = ap seconds e in omega arith)
      (λ d. omega (arith, sorted n m p (omega arith) (omega arith), rises m (omega arith) r, ap seconds (add-one m)))

  level_sorted : (l i j : ℕ) → i ≤ j → j < entries opened l → entry seconds l i ≤ entry seconds l j
  unfolding entry entries
  level_sorted zero i j p q = sorted (suc i) (suc j) (omega arith) (omega arith) q
  level_sorted (suc l) i j p q = level_sorted l (page_len * i) (page_len * j) (omega arith) (omega arith)

  -- The page below the best entry of a level has the best entry of its own level.
  record Below (l e : ℕ) : Type 0 where
    index : ℕ
    gives : look_up t opened R l e ≡ suc index
    best : Best t (entry seconds l) (entries opened l) (page_len * e + index)

  below_best : (l e : ℕ) → l < 3 → Best t (entry seconds (suc l)) (entries opened (suc l)) e → Below l e
  unfolding look_up entry entries
  below_best l e three b = go (look_up t opened R l e) refl (last_is t (min page_len (entries opened l - page_len * e)) (R.page l e))
    where
      go : (k : ℕ) → look_up t opened R l e ≡ k → Last t (min page_len (entries opened l - page_len * e)) (R.page l e) k → Below l e
      go zero i (nowhere f) =
          let small = b.small in
          let z : page_len * e + 0 ≡ page_len * e = omega arith in
          absurd (omega (arith, f 0 (omega arith), holds l e 0 three (omega arith) (omega arith), b.begun, ap (entry seconds l) z))
      go (suc j) i (at q r f) =
          let here = holds l e j three (omega arith) (omega arith) in
          record { index = j; gives = i; best = record { small = omega arith; begun = rw here at r; after = after } }
        where
          -- on the same page, or on a later one, which begins with a later entry of the level above
          after : (m : ℕ) → page_len * e + j < m → m < entries opened l → t < entry seconds l m
          after m g h = lt? m (page_len * suc e)
              (λ c.
              let z : page_len * e + (m - page_len * e) ≡ m = omega arith in
              rw (holds l e (m - page_len * e) three (omega arith) (omega arith), z) at (f (m - page_len * e) (omega arith) (omega arith)))
              (λ c. omega (arith, b.after (suc e) (omega arith) (omega arith), level_sorted l (page_len * suc e) m c h))

  -- The search below a best entry ends at the best block.
  record Ends (l e : ℕ) : Type 0 where
    index : ℕ
    pages : List Pass
    walked : Descent t opened R l e (suc index) pages
    best : Best t (entry seconds 0) opened index

  to_best : (l e : ℕ) → l ≤ 3 → Best t (entry seconds l) (entries opened l) e → Ends l e
  unfolding entries
  to_best zero e three b = record { index = e; pages = []; walked = ground; best = b }
  to_best (suc l) e three b =
      let x = below_best l e three b in
      let y = to_best l (page_len * e + x.index) (omega arith) x.best in
      record { index = y.index; pages = record { level = l; number = e } ∷ y.pages; walked = down x.gives y.walked; best = y.best }

  -- The search finds the last block that opened by t, 0 if none did.
  pub record Finds : Type 0 where
    pub block : ℕ
    pub pages : List Pass
    pub walked : Search t opened R block pages
    pub most : block ≤ opened
    pub begun : (n : ℕ) → 1 ≤ n → n ≤ block → seconds n ≤ t
    pub later : (n : ℕ) → block < n → n ≤ opened → t < seconds n

  ends_find : {j : ℕ} → 0 < opened → look_up t opened R (top_level opened) 0 ≡ suc j → Ends (top_level opened) j → Finds
  unfolding entry
  ends_find some e y = record {
    block = suc y.index;
    pages = record { level = top_level opened; number = 0 } ∷ y.pages;
    walked = onto some e y.walked;
    most = y.best.small;
    begun = λ n h h'. omega (arith, y.best.begun, sorted n (suc y.index) h h' y.best.small);
    later = λ n h h'. let z : suc (n - 1) ≡ n = omega arith in rw z at (y.best.after (n - 1) (omega arith) (omega arith));
  }

  pub finds : opened ≤ 4096 → Finds
  unfolding look_up
  finds big = is? opened 0
      (λ z. record {
        block = 0;
        pages = [];
        walked = empty z;
        most = omega arith;
        begun = λ n h h'. absurd (omega arith);
        later = λ n h h'. absurd (omega arith);
      })
      (λ d. go (omega arith) (look_up t opened R top 0) refl (last_is t _ _))
    where
      top : ℕ
      top = top_level opened

      three : top < 3
      three = top_below opened

      go : 0 < opened → (k : ℕ) → look_up t opened R top 0 ≡ k → Last t (min page_len (entries opened top - page_len * 0)) (R.page top 0) k → Finds
      go some zero e (nowhere f) =
          let s = top_small opened big in
          let q = entries_some opened some top in
          let first = holds top 0 0 three (omega arith) (omega arith) in
          record {
            block = 0;
            pages = record { level = top; number = 0 } ∷ [];
            walked = before some e;
            most = omega arith;
            begun = λ n h h'. absurd (omega arith);
            later = λ n h h'. omega (arith, f 0 (omega arith), first, entry_first seconds top, sorted 1 n (omega arith) h h');
          }
      go some (suc j) e (at q r f) =
          let s = top_small opened big in
          let z : page_len * 0 + j ≡ j = omega arith in
          let y = to_best top j (omega (arith, three)) (record {
            small = omega arith;
            begun = rw (holds top 0 j three (omega arith) (omega arith), z) at r;
            after = λ i g h.
                let z : page_len * 0 + i ≡ i = omega arith in
                rw (holds top 0 i three (omega arith) (omega arith), z) at (f i g (omega arith));
          }) in
          ends_find some e y
