-- A slot of the store, whose place is a small number; a place of a block opened.
use Rattle.std.specs.Prelude.{ℕ, ◌+◌, ◌*◌, ◌-◌, ◌/◌, ◌≤◌, ◌<◌}
use Rattle.std.proofs.Common.{mul-le-mul, mod-lt, div-lt_iff_lt-mul, arith, eq-eqb, ne_eqb}
use Rattle.std.proofs.Math.Arith.{digits_lt}
use Rattle.base.specs.Branch.{is?}
use Rattle.layout.specs.declared.settings.Settings.{Settings}
use Rattle.layout.specs.declared.head.Head.{Head}
use Rattle.layout.specs.Address.{Numbered}
use Rattle.layout.specs.Settings.{Within}
use Rattle.layout.specs.Places.{block_of, slot_of}
use Rattle.layout.specs.Head.{placed}
use Rattle.layout.specs.HeadLaws.{SoundHead}

-- slot k of block n is one of the store's
pub record Spot (s : Settings) (n k : ℕ) : Type 0 where
  pub within : Within s
  pub block : Numbered s n
  pub slot : k < s.block

-- places are few
pub place_most : {s : Settings} {n k : ℕ} → Spot s n k → (n - 1) * s.block + k + 1 ≤ 262144
place_most {s} {n} p =
    let a : n - 1 ≤ 4095 = omega (arith, p.block, p.within) in
    omega (arith, p.within, mul-le-mul a p.within.most)

-- place p is a slot of a block opened
pub record Lies (h : Head) (p : ℕ) : Type 0 where
  pub some : 1 ≤ h.cursor.opened
  pub high : block_of h.settings p ≤ h.cursor.opened
  pub block : Numbered h.settings (block_of h.settings p)
  pub slot : slot_of h.settings p < h.settings.block

place_high : (b p n fill : ℕ) → 1 ≤ b → 1 ≤ p → 1 ≤ n → 1 ≤ fill → fill ≤ b → p ≤ (n - 1) * b + fill → (p - 1) / b + 1 ≤ n
place_high b p n fill some one low used fits most =
    let x : n - 1 < n = omega arith in
    let y : fill - 1 < b = omega arith in
    let w : p - 1 < n * b = omega (arith, digits_lt x y) in
    let v : (p - 1) / b < n = (div-lt_iff_lt-mul some).1 w in
    omega arith

-- A place, not 0 and not above the records placed, is one.
pub place_lies : (h : Head) (p : ℕ) → SoundHead h → 1 ≤ p → p ≤ placed h → Lies h p
unfolding placed
place_lies h p sound one most =
    let N = h.cursor.opened in
    let b = h.settings.block in
    let some : 1 ≤ b = omega (arith, sound.within.least) in
    let low : 1 ≤ N = is? N 0 (λ z. let y : p ≤ 0 = rw (eq-eqb N 0 z) at most in absurd (omega arith)) (λ z. omega arith) in
    let y : p ≤ (N - 1) * b + h.cursor.fill = rw (ne_eqb N 0 (λ z. omega arith)) at most in
    let high : block_of h.settings p ≤ N = place_high b p N h.cursor.fill some one low (sound.some low) sound.fill y in
    record { some = low; high = high; block = record { low = omega arith; high = omega (arith, sound.opened) }; slot = mod-lt (p - 1) some }
