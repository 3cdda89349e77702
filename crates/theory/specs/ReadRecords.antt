-- THE RECORDS READ for a range of seconds, from whatever reader: they are the slots of the blocks that are read, and no others.
use Rattle.std.specs.Prelude.{◌≡◌, refl, true, cond}
use mathlib.Core.List.Memᴰ
use mathlib.Core.List.{[], ◌∷◌, Memᴰ}
use Prim.Native.Nat.{ℕ, zero, suc, ◌≤◌, ◌<◌}
use Rattle.std.proofs.Common.{arith}
use Rattle.base.specs.Branch.{by_test}
use Rattle.base.specs.Lists.{joined}
use Rattle.layout.specs.declared.settings.Settings.{Settings}
use Rattle.calls.specs.Walk.{Reader}
use Rattle.calls.specs.Range.{PlacedRecord, record_in, is_read, block_records, read_records}
use Rattle.theory.specs.MemberLaws.{joined_members, members_joined}

module _ (first last : ℕ) (s : Settings) (R : Reader) where
  -- slot k of block n
  abbrev slot_record : ℕ → ℕ → PlacedRecord
  slot_record n k = record_in s n (R.block n) k

  -- x is that of a slot of a block up to N that is read
  pub record ReadAt (N : ℕ) (x : PlacedRecord) : Type 0 where
    pub block : ℕ
    pub slot : ℕ
    pub low : 1 ≤ block
    pub high : block ≤ N
    pub below : slot < s.block
    pub is : x ≡ slot_record block slot

  pub read_at : (N : ℕ) (x : PlacedRecord) → Memᴰ x (read_records first last s R N) → ReadAt N x
  unfolding read_records block_records
  read_at N x i =
      let m = joined_members _ x N i in
      go m.at m.below m.member
    where
      go : (n : ℕ) → n < N
          → Memᴰ x (cond (is_read first last (R.block (suc n))) (joined (λ k. slot_record (suc n) k ∷ []) s.block) []) → ReadAt N x
      go n h j = by_test (is_read first last (R.block (suc n)))
          (λ b. Memᴰ x (cond b (joined (λ k. slot_record (suc n) k ∷ []) s.block) []) → ReadAt N x)
          (λ e k.
          let m = joined_members _ x s.block k in
          record { block = suc n; slot = m.at; low = omega arith; high = omega arith; below = m.below; is = Memᴰ.eq_of_singleton m.member })
          (λ e k. absurd (Memᴰ.not-nil k))
          j

  pub at_read : (N n k : ℕ) → 1 ≤ n → n ≤ N → k < s.block → is_read first last (R.block n) ≡ true
      → Memᴰ (slot_record n k) (read_records first last s R N)
  unfolding read_records block_records
  at_read N zero k l h b e = absurd (omega arith)
  at_read N (suc n) k l h b e =
      members_joined _ _ N n (omega arith) (rw e (members_joined (λ j. slot_record (suc n) j ∷ []) _ s.block k b (Memᴰ.head refl)))
