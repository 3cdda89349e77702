-- Where levels, blocks and words lie, as the code's functions say it: the place, and that it is inside the layout, which is small.
use Rattle.std.specs.Prelude.{◌≡◌, refl, List, ℕ, zero, suc, ◌+◌, ◌*◌, ◌-◌, ◌≤◌, ◌<◌, replicate}
use Rattle.std.proofs.Math.Path.{sym, ap, ap₂}
use Rattle.std.proofs.Common.{subst, ◌∙◌, arith, mul-le-mul_right, add-mul, length-set}
use Rattle.std.proofs.Math.ListN.{length, get_or, set}
use Rattle.std.proofs.Math.Seq.{sets, length-sets}
use Rattle.layout.specs.declared.settings.Settings.{Settings}
use Rattle.layout.specs.declared.address.Address.{Address}
use Rattle.layout.specs.Sizes.{level_start, dir_start, block_len, block_start, layout_len, layout_most}
use Rattle.layout.specs.Address.{Numbered, Valid, offset}
use Rattle.layout.specs.Program.{get!, set!, wipe! }
use Rattle.layout.specs.Settings.{Within}
use Rattle.layout.specs.Words.{read_word, write_word, wipe_block}
use Rattle.layout.specs.Ran.{Ran}
use Rattle.layout.specs.OnWords.{over, Held, held_fits, fits_same}
use Rattle.layout.specs.SettingsLaws.{BlockLong, layout-len, layout-most}
use Rattle.layout.specs.AddressLaws.{offset_below}

-- level l starts at r
pub record LevelAt (l r : ℕ) : Type 0 where
  pub is : r ≡ level_start l
  pub small : r ≤ 4368

-- block n starts at r, and all of it is inside the layout
pub record BlockAt (s : Settings) (n r : ℕ) : Type 0 where
  pub is : r ≡ block_start s n
  pub room : r + block_len s ≤ layout_len s
  pub small : layout_len s ≤ layout_most

-- the word a lies at r
pub record AtOffset (s : Settings) (a : Address) (r : ℕ) : Type 0 where
  pub is : r ≡ offset s a
  pub below : r < layout_len s
  pub small : layout_len s ≤ layout_most

-- behind the second level there is one more
pub level_last : (l : ℕ) → (l ≡ 0 → ⊥) → (l ≡ 1 → ⊥) → level_start l ≡ 4368
level_last zero a b = absurd (a refl)
level_last (suc zero) a b = absurd (b refl)
level_last (suc (suc l)) a b = refl

-- all of block n is inside the layout
module _ (s : Settings) (n : ℕ) (v : Numbered s n) where
  pub block_room : block_start s n + block_len s ≤ layout_len s
  block_room =
      let m : n - 1 + 1 ≤ s.blocks = omega arith in
      omega (arith, layout-len s, mul-le-mul_right (block_len s) m, add-mul (n - 1) 1 (block_len s))

-- the code's sum, by the block's length that it was given
module _ {s : Settings} {n b : ℕ} (v : Numbered s n) (w : Within s) (e : BlockLong s b) where
  pub starts_small : dir_start + s.tags + (n - 1) * b ≤ layout_most
  starts_small = rw e.is (omega (arith, block_room s n v, layout-most s w))

  pub starts : BlockAt s n (dir_start + s.tags + (n - 1) * b)
  starts = rw e.is record { is = refl; room = block_room s n v; small = layout-most s w }

-- a valid address, by what it is
pub valid_as : (s : Settings) {a x : Address} → a ≡ x → Valid s a → Valid s x
valid_as s e v = subst (λ (y : Address). Valid s y) e v

pub placed_as : (s : Settings) {a x : Address} {r : ℕ} → Valid s a → Within s → a ≡ x → r ≡ offset s x → AtOffset s a r
placed_as s {a} {x} v w e p =
    let q : offset s x ≡ offset s a = ap (offset s) (sym e) in
    record { is = p ∙ q; below = omega (arith, offset_below s a v); small = layout-most s w }

-- the same, for a word that lies j behind a start that is known
pub placed_behind : (s : Settings) {a x : Address} {q p : ℕ} (j : ℕ) → Valid s a → Within s → a ≡ x → q ≡ p → p + j ≡ offset s x → AtOffset s a (q + j)
placed_behind s j v w e f g = placed_as s v w e (ap (λ (o : ℕ). o + j) f ∙ g)

-- ---- the primitives on the words of a store
module _ {s : Settings} {ws : List ℕ} (h : Held s ws) where
  -- the word is in the store
  pub in_store : {a : Address} {r : ℕ} → AtOffset s a r → r < length ws
  in_store p = omega (arith, (held_fits h).long)

  pub block_in_store : {n a b : ℕ} → BlockAt s n a → BlockLong s b → a + b ≤ length ws
  block_in_store p l = omega (arith, (held_fits h).long)

  -- the word at an address's place was read,
  pub ran_read : {a : Address} {r : ℕ} → AtOffset s a r → Ran (over s) (get! a) ws (get_or ws r 0) ws
  unfolding over read_word
  ran_read p = record { value = ap (λ (o : ℕ). get_or ws o 0) (sym p.is); words = refl; good = h.good }

  -- or written,
  pub ran_write : {a : Address} {r : ℕ} (v : ℕ) → AtOffset s a r → Ran (over s) (set! a v) ws tt (set ws r v)
  unfolding over write_word
  ran_write {a} {r} v p = record {
    value = refl;
    words = ap (λ (o : ℕ). set ws o v) (sym p.is);
    good = fits_same (held_fits h) (length-set ws r v);
  }

  -- or a block's words set to zero
  pub ran_wipe : {n a b : ℕ} {ws' : List ℕ} → BlockAt s n a → BlockLong s b → ws' ≡ sets ws a (replicate b 0) → Ran (over s) (wipe! n) ws tt ws'
  unfolding over wipe_block
  ran_wipe {n} {a} {b} p l e = record {
    value = refl;
    words = ap₂ (λ (o m : ℕ). sets ws o (replicate m 0)) (sym p.is) (sym l.is) ∙ sym e;
    good = fits_same (held_fits h) (ap length e ∙ length-sets ws a (replicate b 0));
  }
