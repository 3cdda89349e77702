-- Rows as words: one after another, behind those given, and at the start of a buffer.
use Rattle.std.specs.Prelude.{◌≡◌, refl, List, [], ◌∷◌, ◌++◌, ℕ, suc, ◌+◌, ◌*◌, ◌≤◌, length, set}
use Rattle.std.proofs.Common.{ap, ◌∙◌, arith}
use Rattle.std.proofs.lemmas.List.Edits.{sets, sets-eq}
use Rattle.layout.specs.Sizes.{row_len}
use Rattle.layout.specs.Fields.{tag_word}
use Rattle.layout.specs.Parts.{slot_word}
use Rattle.layout.specs.Payload.{payload_in}
use Rattle.calls.specs.Calls.{Row}
use Rattle.calls.specs.LookBack.{row_words, written}

-- ---- the row of the record in slot k of a block, behind the rows given
pub record PutsRow (block : List ℕ) (k : ℕ) (rows : List ℕ) (given : ℕ) (rows' : List ℕ) : Type 0 where
  pub words : rows' ≡ set (set (set rows (row_len * given) (slot_word block k tag_word)) (row_len * given + 1) (payload_in block k).reading)
      (row_len * given + 2) (payload_in block k).since

-- ---- words set one after another
pub sets_append : (ws : List ℕ) (i : ℕ) (xs ys : List ℕ) → sets ws i (xs ++ ys) ≡ sets (sets ws i xs) (i + length xs) ys
sets_append ws i [] ys = ap (λ (k : ℕ). sets ws k ys) (omega arith)
sets_append ws i (x ∷ xs) ys = sets_append (set ws i x) (suc i) xs ys ∙ ap (λ (k : ℕ). sets (sets (set ws i x) (suc i) xs) k ys) (omega arith)

pub words_append : (r r' : List Row) → row_words (r ++ r') ≡ row_words r ++ row_words r'
words_append [] r' = refl
words_append (x ∷ r) r' = rw (words_append r r')

pub words_length : (r : List Row) → length (row_words r) ≡ row_len * length r
words_length [] = refl
words_length (x ∷ r) = omega (arith, words_length r)

-- ---- rows written behind others
pub rows_append : (ws : List ℕ) (given : ℕ) (r r' : List Row)
    → sets ws (row_len * given) (row_words (r ++ r')) ≡ sets (sets ws (row_len * given) (row_words r)) (row_len * (given + length r)) (row_words r')
rows_append ws given r r' =
    let e : row_len * given + length (row_words r) ≡ row_len * (given + length r) = omega (arith, words_length r) in
    rw (words_append r r', ← e) (sets_append ws (row_len * given) (row_words r) (row_words r'))

-- ---- words set from the start on
pub sets_written : (z buffer : List ℕ) → length z ≤ length buffer → sets buffer 0 z ≡ written z buffer
sets_written z buffer h = let k : 0 + length z ≡ length z = omega arith in sets-eq z buffer 0 (omega arith) ∙ rw k
