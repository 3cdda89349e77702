-- The interpreter of the base: each address has its place on the words. A store may be longer than its layout.
use Rattle.std.specs.Prelude.{◌≡◌, ◌≢◌, Bool, true, false, cond, List, [], ◌∷◌, ℕ, zero, suc, ◌+◌, ◌*◌, ◌-◌, ◌≤◌, ◌<◌, eqb, length, get_or, set, replicate}
use Rattle.std.proofs.Math.Path.{refl}
use Rattle.std.proofs.Common.{◌∙◌, length-set, eqb-true}
use Rattle.std.proofs.Math.Nat.{mul-le-mul_right, add-mul}
use native.Mathlib.Omega.{arith}
use Rattle.std.proofs.Math.Arith.{digits_lt}
use Rattle.std.proofs.Math.Seq.{get_or-set_same, get_or-set_other, length-sets}
use Rattle.std.proofs.lemmas.List.Edits.{sets}
use Rattle.std.proofs.lemmas.Bool.{eqb-false}
use Rattle.base.specs.Branch.{cmp?}
use Rattle.layout.specs.declared.settings.Settings.{Settings}
use Rattle.layout.specs.declared.address.Address.{Address}
use Rattle.layout.specs.declared.address.Address.TheVariants.{Head, Time, Dir, Field, Bits, Slot}
use Rattle.layout.specs.Sizes.{level_start, dir_start, block_head, record_len, block_len, block_start, layout_len, bits_start}
use Rattle.layout.specs.Address.{offset, Valid, Numbered, eq_a, of_block}
use Rattle.layout.specs.Interp.{Interp}
use Rattle.layout.specs.Settings.{Within}
use Rattle.layout.specs.Words.{read_word, write_word, wipe_block, Fits}
use Rattle.layout.specs.AddressLaws.{eq_a_eq, eq_a_refl, head_below, slot_below, level_below, offset_below, offset_inj}

-- ---- reading after a run of zeros
zeros_out : (n : ℕ) (l : List ℕ) (i j : ℕ) → (i ≤ j → i + n ≤ j) → get_or (sets l i (replicate n 0)) j 0 ≡ get_or l j 0
zeros_out zero l i j h = refl
zeros_out (suc n) l i j h =
    zeros_out n (set l i 0) (suc i) j (λ a. omega (arith, h (omega arith))) ∙ get_or-set_other l i j 0 0 (λ e. omega (arith, h (omega arith)))

set_zero : (l : List ℕ) (i : ℕ) → get_or (set l i 0) i 0 ≡ 0
set_zero [] i = refl
set_zero (x ∷ l) zero = refl
set_zero (x ∷ l) (suc i) = set_zero l i

zeros_in : (n : ℕ) (l : List ℕ) (i j : ℕ) → i ≤ j → j < i + n → get_or (sets l i (replicate n 0)) j 0 ≡ 0
zeros_in zero l i j a b = absurd (omega arith)
zeros_in (suc n) l i j a b = go (eqb i j) refl (λ c. zeros_in n (set l i 0) (suc i) j c (omega arith))
  where
    go : (t : Bool) → eqb i j ≡ t → (suc i ≤ j → get_or (sets (set l i 0) (suc i) (replicate n 0)) j 0 ≡ 0)
        → get_or (sets (set l i 0) (suc i) (replicate n 0)) j 0 ≡ 0
    go true e later = let z = eqb-true i j e in zeros_out n (set l i 0) (suc i) j (λ c. absurd (omega arith)) ∙ rw (← z) (set_zero l i)
    go false e later = let z = eqb-false i j e in later (omega arith)

module _ (s : Settings) (ws : List ℕ) (long : layout_len s ≤ length ws) where
  -- ---- reading after a write
  read_write_same : (a : Address) (v : ℕ) → Valid s a → read_word s (write_word s ws a v) a ≡ v
  unfolding read_word write_word
  read_write_same a v h = get_or-set_same ws (offset s a) v 0 (omega (arith, offset_below s a h))

  read_write_other : (a x : Address) (v : ℕ) → Valid s a → Valid s x → x ≢ a → read_word s (write_word s ws a v) x ≡ read_word s ws x
  unfolding read_word write_word
  read_write_other a x v h h' d = get_or-set_other ws (offset s a) (offset s x) v 0 (λ e. d (offset_inj s x a h' h e))

  pub read_write : (a x : Address) (v : ℕ) → Valid s a → Valid s x → read_word s (write_word s ws a v) x ≡ cond (eq_a a x) v (read_word s ws x)
  read_write a x v h h' = go (eq_a a x) refl
    where
      go : (b : Bool) → eq_a a x ≡ b → read_word s (write_word s ws a v) x ≡ cond b v (read_word s ws x)
      go true e = rw (← eq_a_eq a x e) (read_write_same a v h)
      go false e = read_write_other a x v h h' (λ d. let z : ◌≡◌ {A = ℕ} 0 1 = cc (eq_a_refl a) in omega arith)

  -- ---- reading after a block was wiped
  -- a word before the blocks
  wipe_before : (n o : ℕ) → o < dir_start + s.tags → get_or (wipe_block s ws n) o 0 ≡ get_or ws o 0
  unfolding wipe_block
  wipe_before n o h = zeros_out (block_len s) ws (block_start s n) o (λ a. absurd (omega arith))

  -- word j of block m
  wipe_word : (n m j : ℕ) → Numbered s n → Numbered s m → j < block_len s
      → get_or (wipe_block s ws n) (block_start s m + j) 0 ≡ cond (eqb n m) 0 (get_or ws (block_start s m + j) 0)
  unfolding wipe_block
  wipe_word n m j hn hm b = go (eqb n m) refl
    where
      apart : n ≢ m → block_start s n ≤ block_start s m + j → block_start s n + block_len s ≤ block_start s m + j
      apart d a = cmp? n m
          (λ l. let x : n - 1 + 1 ≤ m - 1 = omega arith in omega (arith, mul-le-mul_right (block_len s) x, add-mul (n - 1) 1 (block_len s)))
          (λ e. absurd (d e))
          (λ g. let x : m - 1 < n - 1 = omega arith in absurd (omega (arith, digits_lt x b)))

      go : (t : Bool) → eqb n m ≡ t
          → get_or (sets ws (block_start s n) (replicate (block_len s) 0)) (block_start s m + j) 0 ≡ cond t 0 (get_or ws (block_start s m + j) 0)
      go true e = let z = eqb-true n m e in zeros_in (block_len s) ws (block_start s n) (block_start s m + j) (rw z (omega arith)) (rw z (omega arith))
      go false e = zeros_out (block_len s) ws (block_start s n) (block_start s m + j) (apart (eqb-false n m e))

  pub read_wipe : (n : ℕ) (x : Address) → Numbered s n → Valid s x → read_word s (wipe_block s ws n) x ≡ cond (of_block n x) 0 (read_word s ws x)
  unfolding read_word
  read_wipe n (Head j) h v = wipe_before n j (omega arith)
  read_wipe n (Time l i) h v = wipe_before n (level_start l + i) (omega (arith, level_below s l i v.0 v.1))
  read_wipe n (Dir t) h v = wipe_before n (dir_start + t) (omega arith)
  read_wipe n (Field m j) h v = wipe_word n m j h v.0 (head_below s j (omega arith))
  read_wipe n (Bits m w) h v = wipe_word n m (bits_start + w) h v.0 (head_below s (bits_start + w) (omega arith))
  read_wipe n (Slot m k i) h v = wipe_word n m (block_head + (record_len * k + i)) h v.0 (slot_below s k i v.1 v.2)

-- ---- lengths
pub length_write : (s : Settings) (ws : List ℕ) (a : Address) (v : ℕ) → length (write_word s ws a v) ≡ length ws
unfolding write_word
length_write s ws a v = length-set ws (offset s a) v

pub length_wiped : (s : Settings) (ws : List ℕ) (n : ℕ) → length (wipe_block s ws n) ≡ length ws
unfolding wipe_block
length_wiped s ws n = length-sets ws (block_start s n) (replicate (block_len s) 0)

-- ---- the interpreter
pub fits_same : {s : Settings} {ws ws' : List ℕ} → Fits s ws → length ws' ≡ length ws → Fits s ws'
fits_same h e = record { long = omega (arith, h.long) }

abbrev pub on_words : Settings → Interp
on_words s = record {
  read = read_word s;
  write = write_word s;
  wipe = wipe_block s;
  Good = Fits s;
  May = Valid s;
  Ok = λ f a v. Valid s a;
  Opens = λ f n. Numbered s n;
  length_write = length_write s;
  length_wipe = length_wiped s;
  good_write = λ ws f a v g k h. fits_same g (length_write s ws a v);
  good_wipe = λ ws f n g k h. fits_same g (length_wiped s ws n);
  read_write = λ ws f a x v g k h m. read_write s ws g.long a x v h m;
  read_wipe = λ ws f n x g k h m. read_wipe s ws g.long n x h m;
}

-- the interpreter that contracts name: the one line to change where words are found in another way. Only the primitives open it.
unfoldable pub over : Settings → Interp
over s = on_words s

-- what a call over addresses asks of its store, and what it leaves
pub record Held (s : Settings) (ws : List ℕ) : Type 0 where
  pub good : (over s).Good ws
  pub within : Within s

pub held_fits : {s : Settings} {ws : List ℕ} → Held s ws → Fits s ws
unfolding over
held_fits h = h.good

pub fits_held : {s : Settings} {ws : List ℕ} → Fits s ws → Within s → Held s ws
unfolding over
fits_held h w = record { good = h; within = w }
