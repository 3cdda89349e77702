-- Addresses have places of their own: below the layout's length, no two the same, and the test of two addresses is right.
use Rattle.std.specs.Prelude.{◌≡◌, refl, true, cond, ◌&&◌, eqb, ltb}
use Rattle.std.proofs.Common.{sym, ap, ◌∙◌}
use Prim.Native.Nat.{ℕ, zero, suc, ◌+◌, ◌*◌, ◌-◌, ◌/◌, ◌%◌, ◌≤◌, ◌<◌}
use native.Mathlib.Omega.{arith}
use Rattle.std.proofs.Math.Arith.{digits_lt, digits_div, digits_mod}
use borrow.Author.Tests.{eqb-true, eq-eqb, lt-ltb, le-ltb}
use Rattle.base.specs.Branch.{and-true}
use Rattle.layout.specs.declared.settings.Settings.{Settings}
use Rattle.layout.specs.declared.address.Address.{Address}
use Rattle.layout.specs.declared.address.Address.TheVariants.{Head, Time, Dir, Field, Bits, Slot}
use Rattle.layout.specs.Sizes.{level_len, level_start, dir_start, block_len, block_start, layout_len, bits_start, block_head, record_len}
use Rattle.layout.specs.Address.{offset, Valid, Numbered, Code, code, eq_a}

-- ---- the test
-- the address that four numbers are
decode : ℕ → ℕ → ℕ → ℕ → Address
decode zero w k n = Head n
decode (suc zero) w k n = Time w n
decode (suc (suc zero)) w k n = Dir n
decode (suc (suc (suc zero))) w k n = Field n w
decode (suc (suc (suc (suc zero)))) w k n = Bits n w
decode (suc (suc (suc (suc (suc i))))) w k n = Slot n k w

decode_code : (a : Address) → decode (code a).kind (code a).word (code a).slot (code a).number ≡ a
unfolding decode
decode_code (Head j) = refl
decode_code (Time l i) = refl
decode_code (Dir t) = refl
decode_code (Field n j) = refl
decode_code (Bits n w) = refl
decode_code (Slot n k i) = refl

pub eq_a_eq : (a x : Address) → eq_a a x ≡ true → a ≡ x
eq_a_eq a x e =
    let k = and-true (eqb (code a).kind (code x).kind) _ e in
    let w = and-true (eqb (code a).word (code x).word) _ k.1 in
    let s = and-true (eqb (code a).slot (code x).slot) _ w.1 in
    let k' = eqb-true (code a).kind (code x).kind k.0 in
    let w' = eqb-true (code a).word (code x).word w.0 in
    let s' = eqb-true (code a).slot (code x).slot s.0 in
    let n' = eqb-true (code a).number (code x).number s.1 in
    sym (decode_code a) ∙ rw (k', w', s', n') (decode_code x)

pub eq_a_refl : (a : Address) → eq_a a a ≡ true
eq_a_refl a = same (code a)
  where
    same : (c : Code) → (eqb c.kind c.kind && (eqb c.word c.word && (eqb c.slot c.slot && eqb c.number c.number))) ≡ true
    same c = rw (eq-eqb c.kind c.kind refl, eq-eqb c.word c.word refl, eq-eqb c.slot c.slot refl, eq-eqb c.number c.number refl)

-- ---- places
module _ (s : Settings) where
  in-block : (j : ℕ) → j < block_len s → (n : ℕ) → Numbered s n → block_start s n + j < layout_len s
  unfolding layout_len
  in-block j h n v =
      let m : n - 1 < s.blocks = omega arith in
      omega (arith, digits_lt m h)

  pub slot_below : (k i : ℕ) → k < s.block → i < record_len → block_head + (record_len * k + i) < block_len s
  unfolding block_len
  slot_below k i a b = omega arith

  pub head_below : (j : ℕ) → j < block_head → j < block_len s
  unfolding block_len
  head_below j a = omega arith

  dir_below : (j : ℕ) → j < dir_start + s.tags → j < layout_len s
  unfolding layout_len
  dir_below j a = omega arith

  pub level_below : (l i : ℕ) → l < 3 → i < level_len l → level_start l + i < dir_start
  level_below zero i a b = omega arith
  level_below (suc zero) i a b = omega arith
  level_below (suc (suc l)) i a b = omega arith

  pub offset_below : (a : Address) → Valid s a → offset s a < layout_len s
  offset_below (Head j) v = dir_below j (omega arith)
  offset_below (Time l i) v = dir_below (level_start l + i) (omega (arith, level_below l i v.0 v.1))
  offset_below (Dir t) v = dir_below (dir_start + t) (omega arith)
  offset_below (Field n j) v = in-block j (head_below j (omega arith)) n v.0
  offset_below (Bits n w) v = in-block (bits_start + w) (head_below (bits_start + w) (omega arith)) n v.0
  offset_below (Slot n k i) v = in-block (block_head + (record_len * k + i)) (slot_below k i v.1 v.2) n v.0

  -- the address at a place: reading the layout backwards
  in_block : ℕ → ℕ → Address
  in_block n j = cond (ltb j bits_start) (Field n j)
      (cond (ltb j (bits_start + 2)) (Bits n (j - bits_start)) (Slot n ((j - block_head) / record_len) ((j - block_head) % record_len)))

  locate : ℕ → Address
  locate o =
      cond (ltb o 16) (Head o)
      (cond (ltb o 4112) (Time 0 (o - 16))
      (cond (ltb o 4368) (Time 1 (o - 4112))
      (cond (ltb o 4384) (Time 2 (o - 4368))
      (cond (ltb o (dir_start + s.tags)) (Dir (o - 4384))
      (let r = o - (dir_start + s.tags) in in_block (r / block_len s + 1) (r % block_len s))))))

  -- a word of block n at j, whatever it is
  locate_block : (n j : ℕ) → 1 ≤ n → j < block_len s → locate (block_start s n + j) ≡ in_block n j
  unfolding locate
  locate_block n j a h =
      let o = block_start s n + j in
      let r : o - (dir_start + s.tags) ≡ (n - 1) * block_len s + j = omega arith in
      let m : n - 1 + 1 ≡ n = omega arith in
      simp (
        le-ltb o 16 (omega arith),
        le-ltb o 4112 (omega arith),
        le-ltb o 4368 (omega arith),
        le-ltb o 4384 (omega arith),
        le-ltb o (dir_start + s.tags) (omega arith),
        r,
        digits_div (n - 1) h,
        digits_mod (n - 1) h,
        m,
      )

  locate_offset : (a : Address) → Valid s a → locate (offset s a) ≡ a
  unfolding locate in_block
  locate_offset (Head j) v = simp (lt-ltb j 16 v)
  locate_offset (Time zero i) v =
      let e : 16 + i - 16 ≡ i = omega arith in
      simp (le-ltb (16 + i) 16 (omega arith), lt-ltb (16 + i) 4112 (omega arith), e)
  locate_offset (Time (suc zero) i) v =
      let e : 4112 + i - 4112 ≡ i = omega arith in
      simp (le-ltb (4112 + i) 16 (omega arith), le-ltb (4112 + i) 4112 (omega arith), lt-ltb (4112 + i) 4368 (omega arith), e)
  locate_offset (Time (suc (suc zero)) i) v =
      let e : 4368 + i - 4368 ≡ i = omega arith in
      simp (
        le-ltb (4368 + i) 16 (omega arith),
        le-ltb (4368 + i) 4112 (omega arith),
        le-ltb (4368 + i) 4368 (omega arith),
        lt-ltb (4368 + i) 4384 (omega arith),
        e,
      )
  locate_offset (Time (suc (suc (suc l))) i) v = absurd (omega arith)
  locate_offset (Dir t) v =
      let e : 4384 + t - 4384 ≡ t = omega arith in
      simp (
        le-ltb (4384 + t) 16 (omega arith),
        le-ltb (4384 + t) 4112 (omega arith),
        le-ltb (4384 + t) 4368 (omega arith),
        le-ltb (4384 + t) 4384 (omega arith),
        lt-ltb (4384 + t) (4384 + s.tags) (omega arith),
        e,
      )
  locate_offset (Field n j) v = locate_block n j v.0.low (head_below j (omega arith)) ∙ simp (lt-ltb j bits_start v.1)
  locate_offset (Bits n w) v =
      let e : bits_start + w - bits_start ≡ w = omega arith in
      locate_block n (bits_start + w) v.0.low (head_below (bits_start + w) (omega arith)) ∙ simp (le-ltb (bits_start + w) bits_start (omega arith), lt-ltb (bits_start + w) (bits_start + 2) (omega arith), e)
  locate_offset (Slot n k i) v =
      let j = block_head + (record_len * k + i) in
      let e : (j - block_head) / record_len ≡ k = omega arith in
      let e' : (j - block_head) % record_len ≡ i = omega arith in
      locate_block n j v.0.low (slot_below k i v.1 v.2) ∙ simp (le-ltb j bits_start (omega arith), le-ltb j (bits_start + 2) (omega arith), e, e')

  -- two addresses of a store never share a word
  pub offset_inj : (a x : Address) → Valid s a → Valid s x → offset s a ≡ offset s x → a ≡ x
  offset_inj a x v v' e = sym (locate_offset a v) ∙ ap locate e ∙ locate_offset x v'
