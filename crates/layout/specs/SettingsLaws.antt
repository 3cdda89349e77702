-- The limits of the settings as a test and as facts, and how long blocks and stores are within them.
use Rattle.std.specs.Prelude.{◌≡◌, true, false, ℕ, ◌+◌, ◌*◌, ◌≤◌}
use Rattle.std.proofs.Math.Path.{refl}
use Rattle.std.proofs.Common.{arith, mul-le-mul}
use borrow.Author.Tests.{leb-true, le-leb}
use Rattle.base.specs.Branch.{by_test, and-true}
use Rattle.layout.specs.declared.settings.Settings.{Settings}
use Rattle.layout.specs.Sizes.{dir_start, block_head, record_len, block_len, layout_len, block_most, layout_most}
use Rattle.layout.specs.Settings.{in_limits, Within}

module _ (s : Settings) where
  -- The test says the limits,
  pub limits_within : in_limits s ≡ true → Within s
  unfolding in_limits
  limits_within e =
      let a = and-true _ _ e in
      let b = and-true _ _ a.1 in
      let c = and-true _ _ b.1 in
      let d = and-true _ _ c.1 in
      let f = and-true _ _ d.1 in
      let g = and-true _ _ f.1 in
      let h = and-true _ _ g.1 in
      record {
        least = leb-true _ _ a.0;
        most = leb-true _ _ b.0;
        some = leb-true _ _ c.0;
        half = leb-true _ _ d.0;
        one_block = leb-true _ _ f.0;
        blocks = leb-true _ _ g.0;
        one_tag = leb-true _ _ h.0;
        tags = leb-true _ _ h.1;
      }

  -- and back:
  pub within_limits : Within s → in_limits s ≡ true
  unfolding in_limits
  within_limits w =
      simp (
        le-leb _ _ w.least,
        le-leb _ _ w.most,
        le-leb _ _ w.some,
        le-leb _ _ w.half,
        le-leb _ _ w.one_block,
        le-leb _ _ w.blocks,
        le-leb _ _ w.one_tag,
        le-leb _ _ w.tags,
      )

  -- settings outside of them do not pass.
  pub outside : (Within s → ⊥) → in_limits s ≡ false
  outside h = by_test (in_limits s) (λ t. t ≡ false) (λ e. absurd (h (limits_within e))) (λ e. refl)

  -- ---- lengths
  pub block-len : block_len s ≡ block_head + record_len * s.block
  unfolding block_len
  block-len = refl

  pub layout-len : layout_len s ≡ dir_start + s.tags + s.blocks * block_len s
  unfolding layout_len
  layout-len = refl

  -- the head, the index and the directory come before the blocks
  pub layout_least : dir_start + s.tags ≤ layout_len s
  layout_least = omega (arith, layout-len)

  pub block-most : Within s → block_len s ≤ block_most
  block-most w = omega (arith, block-len)

  pub layout-most : Within s → layout_len s ≤ layout_most
  layout-most w = omega (arith, layout-len, mul-le-mul w.blocks (block-most w))

-- r is how many words a block has, and how long a store must be
pub record BlockLong (s : Settings) (r : ℕ) : Type 0 where
  pub is : r ≡ block_len s
  pub some : 16 ≤ r
  pub small : r ≤ block_most

pub record StoreLong (s : Settings) (r : ℕ) : Type 0 where
  pub is : r ≡ layout_len s
  pub small : r ≤ layout_most
