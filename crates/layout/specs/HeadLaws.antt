-- What a head that was read is known to be.
use Rattle.std.specs.Prelude.{◌≡◌, refl, Bool, true, false, not, ◌&&◌, ◌||◌, List, [], ◌∷◌, ℕ, zero, suc, ◌+◌, ◌*◌, ◌-◌, ◌≤◌, ◌<◌, eqb, ltb, leb, get_or, take, drop}
use Rattle.std.specs.List.{list_all}
use Rattle.std.proofs.Common.{arith, mul-le-mul, length-drop}
use Rattle.std.proofs.Math.Bool.{cond, and-true as both-true}
use Rattle.std.proofs.Math.ListN.{length}
use borrow.Author.Tests.{eqb-true, eqb-false, eq-eqb, ne_eqb, ltb-false, leb-true, le-leb, not-false}
use Rattle.base.specs.Branch.{by_test, is?, and-true, or-false}
use Rattle.layout.specs.declared.head.Head.{Head}
use Rattle.layout.specs.Sizes.{OPEN, mark, head_len}
use Rattle.layout.specs.Fields.{head_mark, head_spare}
use Rattle.layout.specs.RefusalNumbers.{SHORT_HEAD, HEAD}
use Rattle.layout.specs.Settings.{in_limits, Within}
use Rattle.layout.specs.SettingsLaws.{limits_within}
use Rattle.layout.specs.Head.{head_of, head_words, with_head, fill_fits, spare_zero, bad_head, head_refusal}

-- a head within its limits: settings, blocks opened, clock, and the fill rule (0 for N = 0, else 1 to b)
pub record SoundHead (h : Head) : Type 0 where
  pub within : Within h.settings
  pub opened : h.cursor.opened ≤ h.settings.blocks
  pub clock : h.cursor.clock < OPEN
  pub fill : h.cursor.fill ≤ h.settings.block
  pub none : h.cursor.opened ≡ 0 → h.cursor.fill ≡ 0
  pub some : 1 ≤ h.cursor.opened → 1 ≤ h.cursor.fill

-- words from which h was read
pub record HeadRead (ws : List ℕ) (h : Head) : Type 0 where
  pub is : h ≡ head_of ws
  pub sound : SoundHead h
  pub long : head_len ≤ length ws
  pub marked : get_or ws head_mark 0 ≡ mark
  pub spare : spare_zero ws ≡ true

-- ---- the tests of the words, by their parts: where one decides, the rest may stay as they are (`refl`)
zero_at : (i n : ℕ) (ws : List ℕ) → list_all (λ w. eqb w 0) (take (suc n) (drop i ws)) ≡ (eqb (get_or ws i 0) 0 && list_all (λ w. eqb w 0) (take n (drop (suc i) ws)))
zero_at zero zero [] = refl
zero_at zero (suc n) [] = refl
zero_at (suc i) zero [] = refl
zero_at (suc i) (suc n) [] = refl
zero_at zero n (x ∷ ws) = refl
zero_at (suc i) n (x ∷ ws) = zero_at i n ws

pub spare_all : (ws : List ℕ) → list_all (λ w. eqb w 0) (take (head_len - head_spare) (drop head_spare ws)) ≡ spare_zero ws
spare_all ws = rw (zero_at 10 5 ws, zero_at 11 4 ws, zero_at 12 3 ws, zero_at 13 2 ws, zero_at 14 1 ws, zero_at 15 0 ws, both-true) refl

pub bad-head : (ws : List ℕ) {h : Head} → h ≡ head_of ws → {m w n c s f : Bool} → eqb (get_or ws head_mark 0) mark ≡ m → in_limits h.settings ≡ w
    → ltb h.settings.blocks h.cursor.opened ≡ n → eqb h.cursor.clock OPEN ≡ c → spare_zero ws ≡ s → fill_fits h ≡ f
    → bad_head ws ≡ (not m || not w || n || c || not s || not f)
unfolding bad_head
bad-head ws e m w n c s f = rw (← e, m, w, n, c, s, f)

-- ---- the fill rule as facts
pub fill_rule : (h : Head) → fill_fits h ≡ true
    → (h.cursor.fill ≤ h.settings.block) × (h.cursor.opened ≡ 0 → h.cursor.fill ≡ 0) × (1 ≤ h.cursor.opened → 1 ≤ h.cursor.fill)
fill_rule h e = is? h.cursor.opened 0
    (λ z. let g : h.cursor.fill ≡ 0 = eqb-true _ _ (rw (eq-eqb _ _ z) at e) in (omega arith, λ a. g, λ a. omega arith))
    (λ d.
    let g : (leb 1 h.cursor.fill && leb h.cursor.fill h.settings.block) ≡ true = rw (ne_eqb _ _ d) at e in
    let p = and-true (leb 1 h.cursor.fill) _ g in
    (leb-true _ _ p.1, λ a. absurd (d a), λ a. leb-true _ _ p.0))

pub rule_fill : (h : Head) → SoundHead h → fill_fits h ≡ true
rule_fill h k = is? h.cursor.opened 0
    (λ z. simp (eq-eqb _ _ z, eq-eqb _ _ (k.none z)))
    (λ d. let a : 1 ≤ h.cursor.fill = k.some (omega arith) in simp (ne_eqb _ _ d, le-leb _ _ a, le-leb _ _ k.fill))

-- ---- records placed are few
pub placed_most : {h : Head} → SoundHead h → (h.cursor.opened - 1) * h.settings.block + h.cursor.fill ≤ 262144
placed_most {h} k =
    let a : h.cursor.opened - 1 ≤ 4095 = omega (arith, k.within) in
    omega (arith, k.within, mul-le-mul a k.within.most)

-- ---- a head that was read
clock_below : (c : ℕ) → c ≤ OPEN → eqb c OPEN ≡ false → c < OPEN
clock_below c a e = let d = eqb-false c OPEN e in omega arith

module _ (ws : List ℕ) where
  -- words that pass hold a sound head
  pub passes : head_len ≤ length ws → (head_of ws).cursor.clock ≤ OPEN → bad_head ws ≡ false → HeadRead ws (head_of ws)
  unfolding bad_head
  passes l k e =
      let f = or-false _ (not (fill_fits (head_of ws))) e in
      let s = or-false _ (not (spare_zero ws)) f.0 in
      let c = or-false _ (eqb (head_of ws).cursor.clock OPEN) s.0 in
      let n = or-false _ (ltb (head_of ws).settings.blocks (head_of ws).cursor.opened) c.0 in
      let w = or-false (not (eqb (get_or ws head_mark 0) mark)) (not (in_limits (head_of ws).settings)) n.0 in
      let r = fill_rule (head_of ws) (not-false _ f.1) in
      record {
        is = refl;
        sound = record {
          within = limits_within _ (not-false _ w.1);
          opened = ltb-false _ _ n.1;
          clock = clock_below _ k c.1;
          fill = r.0;
          none = r.1;
          some = r.2;
        };
        long = l;
        marked = eqb-true _ _ (not-false _ w.0);
        spare = not-false _ s.1;
      }

  -- where there is no refusal, the store has a head that is not bad,
  pub head_passes : head_refusal ws ≡ 0 → (head_len ≤ length ws) × (bad_head ws ≡ false)
  unfolding head_refusal
  head_passes = by_test (ltb (length ws) head_len)
      (λ t. cond t SHORT_HEAD (cond (bad_head ws) HEAD 0) ≡ 0 → (head_len ≤ length ws) × (bad_head ws ≡ false))
      (λ a e. absurd (omega arith))
      (λ a. by_test (bad_head ws)
      (λ t. cond t HEAD 0 ≡ 0 → (head_len ≤ length ws) × (t ≡ false))
      (λ b e. absurd (omega arith))
      (λ b e. (ltb-false _ _ a, refl)))

  -- and it is sound. (A word fits 32 bits, so that a clock other than OPEN is below it.)
  pub head_read : {h : Head} → h ≡ head_of ws → head_refusal ws ≡ 0 → h.cursor.clock ≤ OPEN → HeadRead ws h
  head_read e z k = let p = head_passes z in rw e (passes p.0 (rw e at k) p.1)

-- A sound head that is written is read back.
pub head_written : (h : Head) (ws : List ℕ) → SoundHead h → head_len ≤ length ws → HeadRead (with_head h ws) h
unfolding with_head head_words head_of
head_written h ws g l = record {
  is = refl;
  sound = g;
  long = omega arith;
  marked = refl;
  spare = refl;
}

-- The words beyond the head stay, and the store is as long as before.
pub length_head : (h : Head) (ws : List ℕ) → head_len ≤ length ws → length (with_head h ws) ≡ length ws
unfolding with_head head_words
length_head h ws l = simp length-drop (omega arith)
