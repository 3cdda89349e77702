-- EVERY WINDOW ON ANY WORDS: accepted if and only if no refusal applies, its rows fit its buffer, and refusal 12 fills it with zeros. And a store alike in
-- length, head and blocks 1 to N gets the same reply (window_alike).
use Rattle.std.specs.Prelude.{◌≡◌, true, false, List, [], ◌∷◌, ℕ, suc, ◌*◌, length}
use Rattle.std.proofs.Math.Path.{refl, ap}
use Rattle.std.proofs.Common.{◌∙◌, arith, ltb-false}
use Rattle.base.specs.Sums.{All, nil, cons}
use Rattle.base.specs.Branch.{by_test}
use Rattle.base.specs.ListLaws.{joined_same}
use Rattle.layout.specs.declared.settings.Settings.{Settings}
use Rattle.layout.specs.Sizes.{row_len}
use Rattle.layout.specs.Fields.{opened_word, closed_word}
use Rattle.layout.specs.Head.{head_of, bad_head}
use Rattle.layout.specs.Parts.{block_part, block_word}
use Rattle.calls.specs.Calls.{Ask, Window}
use Rattle.calls.specs.LookBack.{reader, row_words, written}
use Rattle.calls.specs.Range.{is_read, block_records, read_records, crossing}
use Rattle.calls.specs.Window.{window_rows, window_tests, window}
use Rattle.calls.specs.Claims.{EveryCall, OnlyNumbers, SameBlocks, WindowAlike}
use Rattle.theory.specs.StoreAlike.{head_same, bad_head_same}
use Rattle.theory.specs.EveryQuery.{range_query, every_query, row_words_length, written_length}
use Rattle.theory.specs.WindowRows.{ascends}

module _ (ws : List ℕ) (first last : ℕ) (rows : List ℕ) where
  -- what is answered fits the buffer
  fits : All (λ x. x.applies ≡ false) (window_tests ws first last (length rows))
      → length (written (row_words (window_rows (crossing first last ws) (head_of ws).settings.tags)) rows) ≡ length rows
  fits (cons x₂ (cons x₃ (cons x₄ (cons x₅ (cons x₁₄ (cons x₇ (cons x₁₁ (cons x₁₂ nil)))))))) =
      let d = (head_of ws).settings.tags in
      let given = window_rows (crossing first last ws) d in
      written_length (row_words given) rows
      (omega (arith, row_words_length given, (ascends (crossing first last ws) d).few, ltb-false (length rows) (row_len * d) x₁₁))

  pub every_window : EveryCall ws (Ask (Window first last rows))
  unfolding window
  every_window = every_query ws (Window first last rows)
      (range_query OnlyNumbers (window_tests ws first last (length rows)) _ _ (rows ∷ []) refl refl tt (λ n. tt) (λ f. ap (λ (n : ℕ). n ∷ []) (fits f)))

-- ---- a store alike: a block is read by its two seconds, and then whole
same_block : (first last : ℕ) (s : Settings) (n : ℕ) (block block' : List ℕ) → block_word block' opened_word ≡ block_word block opened_word
    → block_word block' closed_word ≡ block_word block closed_word → (is_read first last block ≡ true → block' ≡ block)
    → block_records first last s n block' ≡ block_records first last s n block
unfolding block_records is_read
same_block first last s n block block' opened closed whole =
    let test : is_read first last block' ≡ is_read first last block = rw (opened, closed) in
    by_test (is_read first last block) (λ b. is_read first last block ≡ b → block_records first last s n block' ≡ block_records first last s n block)
    (λ t e. ap (block_records first last s n) (whole e))
    (λ t e. rw (test ∙ e, e)) refl

crossing_alike : (ws ws' : List ℕ) (first last : ℕ) → SameBlocks ws ws' first last → crossing first last ws' ≡ crossing first last ws
unfolding crossing read_records reader
crossing_alike ws ws' first last a =
    let h = head_of ws in
    rw (
      head_same ws ws' a.head,
      joined_same
          (λ m. block_records first last h.settings (suc m) (block_part h.settings ws' (suc m)))
          (λ m. block_records first last h.settings (suc m) (block_part h.settings ws (suc m))) h.cursor.opened
          (λ m l.
          let two = a.seconds (suc m) (omega arith) (omega arith) in
          same_block first last h.settings (suc m) _ _ two.0 two.1 (a.blocks (suc m) (omega arith) (omega arith))),
    )

window_same : (ws ws' : List ℕ) (first last : ℕ) (rows : List ℕ) → length ws' ≡ length ws → head_of ws' ≡ head_of ws → bad_head ws' ≡ bad_head ws
    → crossing first last ws' ≡ crossing first last ws → window ws' first last rows ≡ window ws first last rows
unfolding window
window_same ws ws' first last rows long head bad read = rw (long, head, bad, read)

pub window_alike : (ws : List ℕ) (first last : ℕ) (rows : List ℕ) → WindowAlike ws first last rows
window_alike ws first last rows = record {
  same_answer = λ ws' a.
      let same = window_same ws ws' first last rows a.long (head_same ws ws' a.head) (bad_head_same ws ws' a.head) (crossing_alike ws ws' first last a) in
      λ i. record { answer = (same i).answer; store = ws'; lent = (same i).lent };
}
