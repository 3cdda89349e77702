-- Feeding every byte of an input gives its lines.
use Rattle.std.specs.Prelude.{◌≡◌, refl, cond, not, List, [], ◌∷◌, ◌++◌, ℕ, ◌+◌, ◌≤◌, ◌<◌, eqb, length}
use Rattle.std.proofs.Common.{sym, ap, ◌∙◌, append-nil, arith, length-append, eq-eqb, ne_eqb, le-leb}
use Rattle.std.proofs.lemmas.Bool.{lt-leb}
use Rattle.base.specs.Branch.{by_test, is?, lt?}
use Rattle.console_text.specs.Fields.{split}
use Rattle.console_text.specs.FieldsLaws.{onto_first, split_some, onto_none, onto_onto, split_at, split_on}
use Rattle.console_text.specs.Lines.{line_most, Text, whole, too_long, text_of, ended, lines_of, new_line, left_over, grown, fed_answer, fed_next, on_fed, gathered}

-- ---- the line so far

text_short : (p : List ℕ) → length p ≤ line_most → text_of p ≡ whole p
unfolding text_of
text_short p h = rw (le-leb (length p) line_most h)

text_long : (p : List ℕ) → line_most < length p → text_of p ≡ too_long
unfolding text_of
text_long p h = rw (lt-leb (length p) line_most h)

-- A byte more of the line since the last newline is a byte more of the bytes.
grown_text : (p : List ℕ) (x : ℕ) → grown (text_of p) x ≡ text_of (p ++ (x ∷ []))
unfolding grown
grown_text p x = lt? line_most (length p)
    (λ a. rw (text_long p a, text_long (p ++ (x ∷ [])) (omega (arith, longer))))
    (λ a. rw (text_short p a) (lt? (length p) line_most
    (λ b. rw (lt-leb line_most (length p) b, text_short (p ++ (x ∷ [])) (omega (arith, longer))))
    (λ b. rw (le-leb line_most (length p) b, text_long (p ++ (x ∷ [])) (omega (arith, longer))))))
  where
    longer : length (p ++ (x ∷ [])) ≡ length p + 1
    longer = simp length-append

-- What is left at the end is a line unless it is empty.
left_text : (p : List ℕ) → cond (left_over (text_of p)) (text_of p ∷ []) [] ≡ ended (p ∷ [])
unfolding ended
left_text p = lt? line_most (length p)
    (λ a. rw (text_long p a, ne_eqb (length p) 0 (λ e. omega arith)))
    (λ a. rw (text_short p a)
    (by_test (eqb (length p) 0) (λ t. cond (not t) (whole p ∷ []) [] ≡ cond t [] (whole p ∷ [])) (λ e. refl) (λ e. refl)))

-- ---- the whole input

ended_more : (p : List ℕ) (parts : List (List ℕ)) → 1 ≤ length parts → ended (p ∷ parts) ≡ text_of p ∷ ended parts
unfolding ended
ended_more p [] h = absurd (omega arith)
ended_more p (q ∷ parts) h = refl

-- A newline takes the line out, and any other byte goes on with it.
module _ (g : Text) (x : ℕ) (rest : List ℕ) where
  pub gathered_end : x ≡ 10 → gathered g (x ∷ rest) ≡ g ∷ gathered new_line rest
  unfolding gathered on_fed fed_answer fed_next
  gathered_end e = rw (eq-eqb x 10 e)

  pub gathered_on : (x ≡ 10 → ⊥) → gathered g (x ∷ rest) ≡ gathered (grown g x) rest
  unfolding gathered on_fed fed_answer fed_next
  gathered_on n = rw (ne_eqb x 10 n)

gathered_none : (g : Text) → gathered g [] ≡ cond (left_over g) (g ∷ []) []
unfolding gathered
gathered_none g = refl

module _ (p : List ℕ) (x : ℕ) (rest : List ℕ) where
  parts_end : x ≡ 10 → onto_first p (split 10 (x ∷ rest)) ≡ p ∷ split 10 rest
  unfolding onto_first
  parts_end e = rw (split_at 10 x rest (eq-eqb x 10 e), append-nil)

  parts_on : (x ≡ 10 → ⊥) → onto_first p (split 10 (x ∷ rest)) ≡ onto_first (p ++ (x ∷ [])) (split 10 rest)
  parts_on n = rw (split_on 10 x rest (ne_eqb x 10 n)) (onto_onto p (x ∷ []) (split 10 rest))

parts_last : (p : List ℕ) → onto_first p (split 10 []) ≡ p ∷ []
unfolding onto_first
parts_last p = rw append-nil

gathers : (input p : List ℕ) → gathered (text_of p) input ≡ ended (onto_first p (split 10 input))
unfolding gathered text_of
gathers [] p = gathered_none (text_of p) ∙ left_text p ∙ ap ended (sym (parts_last p))
gathers (x ∷ rest) p = is? x 10
    (λ e. rw (parts_end p x rest e, ended_more p (split 10 rest) (split_some 10 rest), gathered_end (text_of p) x rest e)
    (ap (λ l. text_of p ∷ l) (gathers rest [] ∙ ap ended (onto_none 10 rest))))
    (λ n. rw (parts_on p x rest n, gathered_on (text_of p) x rest n, grown_text p x) (gathers rest (p ++ (x ∷ []))))

-- FEEDING EVERY BYTE OF AN INPUT, FROM A NEW LINE ON, GIVES THE INPUT'S LINES.
pub gathered_lines : (input : List ℕ) → gathered new_line input ≡ lines_of input
unfolding lines_of text_of
gathered_lines input = gathers input [] ∙ ap ended (onto_none 10 input)
