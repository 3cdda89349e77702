-- Parts of the store: how long they are, which words they have, and what zeroing one leaves.
use Rattle.std.specs.Prelude.{◌≡◌, refl, List, ℕ, zero, suc, ◌+◌, ◌*◌, ◌-◌, ◌≤◌, ◌<◌, length, take, drop, replicate}
use Rattle.std.proofs.Common.{sym, ap₂, ◌∙◌, append_assoc, arith, mul_comm, length-take, length-drop, get_or-take, get_or-drop, drop-drop}
use Rattle.std.proofs.Math.Path.{ap}
use mathlib.Core.HLevel.{Discrete}
use Rattle.std.proofs.Math.Decide.{ℕ_discrete}
use Rattle.std.proofs.Math.ListN.{get_or}
use Rattle.std.proofs.lemmas.List.{length-replicate}
use Rattle.std.proofs.lemmas.List.Edits.{sets, sets-eq}
use borrow.Rule.Slice.PartMut.{put_mid}
use Rattle.base.specs.SameRows.{both_discrete}
use Rattle.layout.specs.declared.settings.Settings.{Settings}
use Rattle.layout.specs.declared.payload.Payload.{Payload}
use Rattle.layout.specs.declared.address.Address.TheVariants.{Time, Field, Slot}
use Rattle.layout.specs.Sizes.{level_len, level_start, page_len, dir_start, block_head, record_len, block_len, block_start, layout_len, bits_start}
use Rattle.layout.specs.SettingsLaws.{block-len}
use Rattle.layout.specs.AddressLaws.{head_below, slot_below}
use Rattle.layout.specs.Parts.{part, block_part, level_part, page_part, block_word, slot_word}
use Rattle.layout.specs.Payload.{new_payload, payload_of}
use Rattle.layout.specs.Words.{read_word}
use Rattle.layout.specs.Head.{cleared}

-- r is n words of ws from a on; a block; a level; a page of its level
pub record Part (ws : List ℕ) (a n : ℕ) (r : List ℕ) : Type 0 where
  pub is : r ≡ part ws a n
  pub long : length r ≡ n

pub record BlockPart (s : Settings) (ws : List ℕ) (n : ℕ) (r : List ℕ) : Type 0 where
  pub is : r ≡ block_part s ws n
  pub long : length r ≡ block_len s
  pub room : length r ≡ block_head + record_len * s.block

pub record LevelPart (ws : List ℕ) (l : ℕ) (r : List ℕ) : Type 0 where
  pub is : r ≡ level_part ws l
  pub long : length r ≡ level_len l

pub record PagePart (level : List ℕ) (e : ℕ) (r : List ℕ) : Type 0 where
  pub is : r ≡ page_part level e
  pub long : length r ≡ page_len

-- ---- n words from a on
part_at : (ws : List ℕ) (a n i : ℕ) → i < n → get_or (part ws a n) i 0 ≡ get_or ws (a + i) 0
part_at ws a n i l = rw (get_or-take, get_or-drop)

module _ (ws : List ℕ) (a n : ℕ) (h : a + n ≤ length ws) where
  part_length : length (part ws a n) ≡ n
  part_length = simp (length-take, length-drop) (omega arith)

  -- as the code cuts it, by its end
  pub cut : Part ws a n (take (a + n - a) (drop a ws))
  cut =
      let k : a + n - a ≡ n = omega arith in
      rw k record { is = refl; long = part_length }

  -- a part that was lent and came back as zeros
  pub zeroed : (ys : List ℕ) → ys ≡ replicate (length (take (a + n - a) (drop a ws))) 0
      → put_mid a (a + n - a) ws ys ≡ sets ws a (replicate n 0)
  zeroed ys e =
      let k : a + n - a ≡ n = omega arith in
      let z : List ℕ = replicate n 0 in
      let r : a + length z ≤ length ws = simp length-replicate h in
      rw (k, e, k, part_length, drop-drop) (sym (sets-eq z ws a r ∙ rw length-replicate (append_assoc (take a ws) z (drop (a + n) ws))))

-- zeros from the start on, as many as the layout has words
pub cleared_is : (s : Settings) (ws : List ℕ) → layout_len s ≤ length ws → {r : ℕ} → r ≡ layout_len s
    → sets ws 0 (replicate r 0) ≡ cleared s ws
unfolding cleared
cleared_is s ws h {r} e =
    let z : List ℕ = replicate r 0 in
    let k : 0 + length z ≡ layout_len s = simp length-replicate (omega arith) in
    sets-eq z ws 0 (omega arith) ∙ rw (k, e)

-- ---- the parts by what they are
pub as_block : {s : Settings} {ws : List ℕ} {n a b : ℕ} {r : List ℕ} → a ≡ block_start s n → b ≡ block_len s → Part ws a b r → BlockPart s ws n r
unfolding block_part
as_block {s} e f p = record { is = p.is ∙ rw (e, f); long = p.long ∙ f; room = p.long ∙ f ∙ block-len s }

pub as_level : {ws : List ℕ} {l a b : ℕ} {r : List ℕ} → a ≡ level_start l → b ≡ level_len l → Part ws a b r → LevelPart ws l r
unfolding level_part
as_level e f p = record { is = p.is ∙ rw (e, f); long = p.long ∙ f }

pub as_page : {level : List ℕ} (e : ℕ) {r : List ℕ} → Part level (page_len * e) page_len r → PagePart level e r
unfolding page_part
as_page e p = record { is = p.is ∙ rw (mul_comm e page_len); long = p.long }

-- every level ends before the directory
pub level_room : (l : ℕ) → level_start l + level_len l ≤ dir_start
level_room zero = omega arith
level_room (suc zero) = omega arith
level_room (suc (suc l)) = omega arith

pub level_long : (l : ℕ) → (l ≡ 0 → ⊥) → (l ≡ 1 → ⊥) → level_len l ≡ 16
level_long zero a b = absurd (a refl)
level_long (suc zero) a b = absurd (b refl)
level_long (suc (suc l)) a b = refl

-- ---- a word of a part is the word of the store
module _ (s : Settings) (ws : List ℕ) where
  -- seconds and links,
  pub block-word : (n j : ℕ) → j < bits_start → block_word (block_part s ws n) j ≡ read_word s ws (Field n j)
  unfolding block_word block_part read_word
  block-word n j h = part_at ws (block_start s n) (block_len s) j (head_below s j (omega arith))

  -- and the records of a block;
  pub slot-word : (n k i : ℕ) → k < s.block → i < record_len → slot_word (block_part s ws n) k i ≡ read_word s ws (Slot n k i)
  unfolding slot_word block_part read_word
  slot-word n k i h l = part_at ws (block_start s n) (block_len s) (block_head + (record_len * k + i)) (slot_below s k i h l)

  -- an entry of the index.
  pub page_word : (l e i : ℕ) → page_len * e + page_len ≤ level_len l → i < page_len
      → get_or (page_part (level_part ws l) e) i 0 ≡ read_word s ws (Time l (page_len * e + i))
  unfolding page_part level_part read_word
  page_word l e i h b =
      part_at (level_part ws l) (e * page_len) page_len i b
      ∙ part_at ws (level_start l) (level_len l) (e * page_len + i) (omega arith)
      ∙ ap (λ (o : ℕ). get_or ws o 0) (omega arith)

-- ---- records with the same words tell the same
pub payload_same : {v w : ℕ → ℕ} → ((i : ℕ) → i < record_len → v i ≡ w i) → payload_of v ≡ payload_of w
payload_same h = ap₂ new_payload (h _ (omega arith)) (h _ (omega arith))

-- ---- and what they tell is equal or not
pub payload_discrete : Discrete Payload
payload_discrete = both_discrete (λ p. p.reading) (λ p. p.since) (λ x y. ap₂ new_payload) ℕ_discrete ℕ_discrete
