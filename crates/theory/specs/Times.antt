-- The index: opening seconds rise with the block number, and the three levels have those of each block, of each 16th and of each 256th
-- (Indexed). An opening keeps it.
use Rattle.std.specs.Prelude.{◌≡◌, refl, ◌≢◌, false, ℕ, ◌+◌, ◌*◌, ◌/◌, ◌%◌, ◌≤◌, ◌<◌, eqb}
use Rattle.std.proofs.Common.{sym, ap, ◌∙◌, mul_comm, div-add-mod', arith, eqb-true, ne_eqb}
use Rattle.std.proofs.Math.Arith.{digits_div, digits_mod}
use Rattle.std.proofs.lemmas.Bool.{eqb-false}
use Rattle.base.specs.Branch.{is?, cond_all, eqb_same}
use Rattle.layout.specs.declared.head.Cursor.{Cursor}
use Rattle.layout.specs.declared.address.Address.TheVariants.{Time}
use Rattle.layout.specs.Memory.{Memory, put}
use Rattle.layout.specs.Program.{Prog, ret, when, set!, run_on}
use Rattle.calls.specs.Placing.{enter_time, open_block}
use Rattle.theory.specs.Row.{Put}

-- entry i of a level is the opening second of block 1 + m i
abbrev pub Level : (ℕ → ℕ) → (ℕ → ℕ) → ℕ → ℕ → Type 0
Level opened entries m N = (i : ℕ) → m * i < N → entries i ≡ opened (1 + m * i)

pub record Indexed (opened : ℕ → ℕ) (times : ℕ → ℕ → ℕ) (N : ℕ) : Type 0 where
  pub rises : (n : ℕ) → 1 ≤ n → n < N → opened n ≤ opened (n + 1)
  pub each : Level opened (times 0) 1 N
  pub pages : Level opened (times 1) 16 N
  pub tops : Level opened (times 2) 256 N

-- block N + 1's opening second enters a level if N is a multiple of m
pub record Enter (before after : ℕ → ℕ) (m N now : ℕ) : Type 0 where
  pub here : (i : ℕ) → m * i ≡ N → after i ≡ now
  pub other : (i : ℕ) → m * i ≢ N → after i ≡ before i

pub record TimesEntered (before after : ℕ → ℕ → ℕ) (N now : ℕ) : Type 0 where
  pub each : Enter (before 0) (after 0) 1 N now
  pub pages : Enter (before 1) (after 1) 16 N now
  pub tops : Enter (before 2) (after 2) 256 N now

level_enter : {opened opened' before after : ℕ → ℕ} {m N now : ℕ} → Level opened before m N → Put opened opened' (N + 1) now
    → Enter before after m N now
    → Level opened' after m (N + 1)
level_enter {opened' = opened'} {m = m} {N} l p e i a = is? (m * i) N
    (λ z. let y : 1 + m * i ≡ N + 1 = omega arith in e.here i z ∙ sym (ap opened' y ∙ p.here))
    (λ z.
    let below : m * i < N = omega arith in
    let not_new : 1 + m * i ≢ N + 1 = omega arith in
    e.other i z ∙ l i below ∙ sym (p.other (1 + m * i) not_new))

-- a block opens, no earlier than the others
pub indexed_open : {opened opened' : ℕ → ℕ} {before after : ℕ → ℕ → ℕ} {N clock now : ℕ} → Indexed opened before N → Put opened opened' (N + 1) now
    → TimesEntered before after N now → ((n : ℕ) → 1 ≤ n → n ≤ N → opened n ≤ clock) → clock ≤ now → Indexed opened' after (N + 1)
indexed_open {opened' = opened'} {N = N} {now = now} i p e past later = record {
  rises = λ n a b. is? n N
      (λ z. let new : opened' (n + 1) ≡ now = rw z p.here in omega (arith, p.other n (omega arith), past n a (omega arith)))
      (λ z. omega (arith, p.other n (omega arith), p.other (n + 1) (omega arith), i.rises n a (omega arith)));
  each = level_enter i.each p e.each;
  pages = level_enter i.pages p e.pages;
  tops = level_enter i.tops p e.tops;
}

-- seconds alike
pub indexed_same : {opened opened' : ℕ → ℕ} {times : ℕ → ℕ → ℕ} {N : ℕ} → Indexed opened times N → ((n : ℕ) → opened' n ≡ opened n)
    → Indexed opened' times N
indexed_same i h = record {
  rises = λ n a b. omega (arith, h n, h (n + 1), i.rises n a b);
  each = λ k a. i.each k a ∙ sym (h (1 + 1 * k));
  pages = λ k a. i.pages k a ∙ sym (h (1 + 16 * k));
  tops = λ k a. i.tops k a ∙ sym (h (1 + 256 * k));
}

-- ---- the index of a memory
abbrev pub times : Memory → ℕ → ℕ → ℕ
times f l i = f (Time l i)

-- an entry made if n is a multiple of m
abbrev entry : ℕ → ℕ → ℕ → ℕ → Prog (Unit {0})
entry l m n now = when (eqb (n % m) 0) (set! (Time l (n / m)) now) (ret tt)

multiple : (m n i : ℕ) → 1 ≤ m → m * i ≡ n → (n % m ≡ 0) × (n / m ≡ i)
multiple m n i h e =
    let d : i * m + 0 ≡ n = omega (arith, mul_comm i m) in
    (rw (← d) (digits_mod i h), rw (← d) (digits_div i h))

entry_here : (l m n now : ℕ) (f : Memory) → 1 ≤ m → Enter (times f l) (times (run_on (entry l m n now) f).1 l) m n now
entry_here l m n now f some = cond_all (λ (z : Unit {0} × Memory). Enter (times f l) (times z.1 l) m n now) (eqb (n % m) 0)
    (λ t. record {
      here = λ i e. let q = (multiple m n i some e).1 in simp (q, eqb_same);
      other = λ i d.
          let q : n / m ≢ i = λ e. d (mul_comm m i ∙ rw (← e) (let r = eqb-true (n % m) 0 t in omega (arith, div-add-mod' n m))) in
          simp (ne_eqb (n / m) i q, eqb_same);
    })
    (λ t. record { here = λ i e. absurd (eqb-false (n % m) 0 t (multiple m n i some e).0); other = λ i d. refl })

-- and no other level changes
entry_other : (l m n now : ℕ) (f : Memory) (k i : ℕ) → eqb l k ≡ false → times (run_on (entry l m n now) f).1 k i ≡ times f k i
entry_other l m n now f k i d = cond_all (λ (z : Unit {0} × Memory). z.1 (Time k i) ≡ f (Time k i)) (eqb (n % m) 0) (λ t. rw d) (λ t. refl)

enter_like : {before before' after after' : ℕ → ℕ} {m n now : ℕ} → ((i : ℕ) → before i ≡ before' i) → ((i : ℕ) → after' i ≡ after i)
    → Enter before after m n now → Enter before' after' m n now
enter_like b a e = record { here = λ i h. a i ∙ e.here i h; other = λ i d. a i ∙ e.other i d ∙ b i }

time_enters : (n now : ℕ) (f : Memory) → TimesEntered (times f) (times (run_on (enter_time n now) f).1) n now
unfolding enter_time
time_enters n now f =
    let g = put f (Time 0 n) now in
    let h = (run_on (entry 1 16 n now) g).1 in
    let first : Enter (times f 0) (times g 0) 1 n now = record {
      here = λ i e. let z : n ≡ i = omega arith in simp (z, eqb_same);
      other = λ i d. simp (ne_eqb n i (omega arith));
    } in
    record {
      each = enter_like (λ i. refl) (λ i. entry_other 2 256 n now h 0 i refl ∙ entry_other 1 16 n now g 0 i refl) first;
      pages = enter_like (λ i. refl) (λ i. entry_other 2 256 n now h 1 i refl) (entry_here 1 16 n now g (omega arith));
      tops = enter_like (λ i. entry_other 1 16 n now g 2 i refl) (λ i. refl) (entry_here 2 256 n now h (omega arith));
    }

-- the rest of an opening leaves the index
pub open_enters : (c : Cursor) (now : ℕ) (f : Memory) → TimesEntered (times f) (times (run_on (open_block c now) f).1) c.opened now
unfolding open_block
open_enters c now f =
    cond_all (λ (z : Cursor × Memory). TimesEntered (times f) (times z.1) c.opened now) (eqb c.opened 0)
    (λ e. time_enters c.opened now f) (λ e. time_enters c.opened now f)
