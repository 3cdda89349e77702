-- The proved table holds: each row is computed on the words.
use Rattle.std.specs.Prelude.{◌≡◌, refl, true, List, ◌∷◌, ◌++◌, ℕ, suc, ◌+◌, ◌*◌, ◌-◌, ◌≤◌, replicate}
use Rattle.std.proofs.Common.{ap, ◌∙◌, arith, lit≤, ne_eqb}
use Rattle.layout.specs.declared.address.Address.TheVariants.{Field}
use Rattle.layout.specs.Sizes.{OPEN}
use Rattle.layout.specs.Fields.{closed_word}
use Rattle.layout.specs.Head.{head_of, head_words, placed}
use Rattle.calls.specs.History.{words_after, trace, opening, account}
use Rattle.calls.specs.Calls.{Start, Set, Refused, accepted}
use Rattle.calls.specs.Step.{step, words_read, set}
use Rattle.calls.specs.Refusals.{refusal, set_tests}
use Rattle.calls.specs.Opened.{open_tests, open_programs, open_walk}
use Rattle.calls.specs.Table.{Table, Since, Slips, settings, printed, up_to13, seen_at, fresh, after7, after8, after13}

-- ---- a set is accepted, or refused, by its tests alone
set_passes : (ws : List ℕ) (s tag reading : ℕ) → refusal (set_tests ws (words_read ws) s tag) ≡ 0
    → accepted (step ws (Set s tag reading)).answer ≡ true
unfolding set
set_passes ws s tag reading e = rw e

set_refused : (ws : List ℕ) (s tag reading n : ℕ) → refusal (set_tests ws (words_read ws) s tag) ≡ suc n
    → (step ws (Set s tag reading)).answer ≡ Refused (suc n)
unfolding set
set_refused ws s tag reading n e = rw (e, ne_eqb (suc n) 0 (omega arith))

-- ---- what the printed case leaves, word by word: the rows are computed on these
unfoldable pub eight : List ℕ
eight =
    head_words (record { settings = settings; cursor = record { opened = 2; clock = 8; fill = 2; child = 1; right = 2 } })
    ++ (1 ∷ 5 ∷ replicate 4094 0) ++ (1 ∷ replicate 255 0) ++ (1 ∷ replicate 15 0) ++ (0 ∷ 0 ∷ 0 ∷ 0 ∷ 6 ∷ 5 ∷ replicate 10 0)
    ++ (1 ∷ 8 ∷ 0 ∷ 0 ∷ 0 ∷ 2 ∷ 0 ∷ 0
    ∷ 1 ∷ 25 ∷ 1 ∷ 8 ∷ 1
    ∷ 2 ∷ 4294967271 ∷ 2 ∷ 6 ∷ 2
    ∷ 3 ∷ 5 ∷ 3 ∷ 7 ∷ 3
    ∷ 4 ∷ 140 ∷ 4 ∷ 8 ∷ 4
    ∷ 5 ∷ OPEN ∷ 0 ∷ 0 ∷ 0 ∷ 0 ∷ 3 ∷ 0
    ∷ 5 ∷ 0 ∷ 5 ∷ OPEN ∷ 5
    ∷ 4 ∷ 140 ∷ 8 ∷ OPEN ∷ 4
    ∷ replicate 178 0)

printed_leaves : words_after (step (replicate 4624 9) (Start settings)).store printed ≡ eight
unfolding eight open_tests open_programs
printed_leaves = refl

-- what is true of them is true of the words after the printed case
pub on_eight : {A : Type 0} (f : List ℕ → A) {x : A} → f eight ≡ x → f after8 ≡ x
unfolding fresh after7 after8
on_eight f e = ap f printed_leaves ∙ e

-- ---- the parts of the table are proved one by one, because a declaration may take only so many steps of the prover
since : Since
unfolding fresh after13 eight open_tests open_programs open_walk
since = record {
  before = refl;
  new_reading = refl;
  same_reading = refl;
  row_words_lem = refl;
  copied_twice = on_eight (λ ws. seen_at (words_after ws up_to13) 13) refl;
}

slips : Slips
unfolding fresh open_tests open_programs open_walk
slips = record { acceptor = refl; first = refl }

six_placed : placed (head_of after8) ≡ 6
unfolding eight open_tests
six_placed = on_eight (λ ws. placed (head_of ws)) refl

five_sets : (account (opening settings) (trace fresh printed)).sets ≡ 5
unfolding fresh open_tests open_programs
five_sets = refl

bounded : {x y : ℕ} → x ≡ 6 → y ≡ 5 → x * (4 - 2 + 1) ≤ 4 * y
bounded e f = rw (e, f) (lit≤ tt)

pub table : Table
unfolding fresh after7 eight open_tests open_programs open_walk
table = record {
  p1 = on_eight (λ ws. seen_at ws 7) refl;
  p2 = on_eight (λ ws. seen_at ws 8) refl;
  p3 = on_eight (λ ws. seen_at ws 3) refl;
  printed_9 = on_eight (λ ws. seen_at ws 9) refl;
  p4 = on_eight (λ ws. seen_at ws 0) refl;
  p5 = six_placed;
  p5_sets = five_sets;
  p5_bound = bounded six_placed five_sets;
  p6_not = refl;
  p6 = on_eight (λ ws. words_read ws (Field 1 closed_word)) refl;
  p7 = refl;
  p8 = refl;
  p8_not = λ ws. refl;
  p9 = λ reading. set_passes after8 8 6 reading (on_eight (λ ws. refusal (set_tests ws (words_read ws) 8 6)) refl);
  p10 = λ reading. set_refused after8 7 6 reading 5 (on_eight (λ ws. refusal (set_tests ws (words_read ws) 7 6)) refl);
  p11 = λ reading. set_passes after8 8 15 reading (on_eight (λ ws. refusal (set_tests ws (words_read ws) 8 15)) refl);
  p11_not = λ reading. set_refused after8 8 16 reading 7 (on_eight (λ ws. refusal (set_tests ws (words_read ws) 8 16)) refl);
  p12 = λ ws e. rw e;
  p12_not = λ ws e. rw e;
  since = since;
  slips = slips;
}
