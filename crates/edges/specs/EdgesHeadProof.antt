-- The edges of refusals 1 to 4 hold: the tests that every call but a start begins with are computed once for all.
use Rattle.std.specs.Prelude.{◌≡◌, refl, Bool, true, false, cond, List, [], ◌∷◌, ◌++◌, ℕ, eqb, drop}
use Rattle.std.proofs.Common.{sym}
use Rattle.std.proofs.lemmas.Bool.{eqb-false}
use Rattle.layout.specs.Sizes.{block_len, layout_len}
use Rattle.layout.specs.Settings.{in_limits}
use Rattle.layout.specs.Head.{head_of, head_words, bad_head}
use Rattle.layout.specs.Words.{write_word}
use Rattle.calls.specs.Calls.{LookBack, Window, Call, Start, Set, Clear, Update, Advance, Ask}
use Rattle.calls.specs.Refusals.{Test, refusal, store_tests}
use Rattle.calls.specs.LookBack.{look_back}
use Rattle.calls.specs.Window.{window}
use Rattle.calls.specs.Step.{tests_of, start, set, clear, update, advance}
use Rattle.calls.specs.Claims.{NotStart}
use Rattle.edges.specs.EdgesStores.{Refuses, AllRefuse, head_only, three}
use Rattle.edges.specs.EdgesHead.{StartEdges, HeadEdges}

-- ---- a refusal that comes by the first tests is given whatever tests follow
kept : (l m : List Test) (n : ℕ) → refusal l ≡ n → eqb n 0 ≡ false → refusal (l ++ m) ≡ n
kept [] m n e d = absurd (eqb-false n 0 d (sym e))
kept (t ∷ l) m n e d = go t.applies (λ f. kept l m n f d) e
  where
    go : (b : Bool) → (refusal l ≡ n → refusal (l ++ m) ≡ n) → cond b t.number (refusal l) ≡ n
        → cond b t.number (refusal (l ++ m)) ≡ n
    go true k f = f
    go false k f = k f

module _ (ws : List ℕ) (n : ℕ) (some : eqb n 0 ≡ false) where
  -- the tests that every call but a start begins with
  begins : (c : Call) → NotStart c → refusal (store_tests ws []) ≡ n → refusal (tests_of ws c) ≡ n
  begins (Start s) h e = absurd h
  begins (Set s tag reading) h e = kept (store_tests ws []) (drop 3 (tests_of ws (Set s tag reading))) n e some
  begins (Clear s tag) h e = kept (store_tests ws []) (drop 3 (tests_of ws (Clear s tag))) n e some
  begins (Update s tag reading) h e = kept (store_tests ws []) (drop 3 (tests_of ws (Update s tag reading))) n e some
  begins (Advance s) h e = kept (store_tests ws []) (drop 3 (tests_of ws (Advance s))) n e some
  begins (Ask (LookBack t rows list)) h e =
      kept (store_tests ws []) (drop 3 (tests_of ws (Ask (LookBack t rows list)))) n e some
  begins (Ask (Window first last rows)) h e =
      kept (store_tests ws []) (drop 3 (tests_of ws (Ask (Window first last rows)))) n e some

  -- a call whose first refusal is n, but not 12, answers it
  answers : (c : Call) → NotStart c → eqb n 12 ≡ false → refusal (tests_of ws c) ≡ n → Refuses n ws c
  unfolding set clear update advance look_back window
  answers (Start s) h d e = absurd h
  answers (Set s tag reading) h d e = rw (e, some)
  answers (Clear s tag) h d e = rw (e, some)
  answers (Update s tag reading) h d e = rw (e, some)
  answers (Advance s) h d e = rw (e, some)
  answers (Ask (LookBack t rows list)) h d e = rw (e, some, d)
  answers (Ask (Window first last rows)) h d e = rw (e, some, d)

every : {n : ℕ} {ws : List ℕ} → refusal (store_tests ws []) ≡ n → eqb n 0 ≡ false → eqb n 12 ≡ false → AllRefuse n ws
every {n} {ws} e some d = record { given = λ c h. answers ws n some c h d (begins ws n some c h e) }

pub start_edges : StartEdges
unfolding block_len layout_len in_limits start
start_edges = record {
  b_1 = λ q blocks tags ws. refl;
  b_2 = record { passes = λ ws e. rw e; short = λ ws e. rw e };
  b_64 = record { passes = λ ws e. rw e; short = λ ws e. rw e };
  b_65 = λ ws. refl;
  q_0 = λ ws. refl;
  q_half = record { passes = λ ws e. rw e; short = λ ws e. rw e };
  q_above_half = λ ws. refl;
  b_below_double = λ ws. refl;
  blocks_0 = λ ws. refl;
  blocks_4096 = record { passes = λ ws e. rw e; short = λ ws e. rw e };
  blocks_4097 = λ ws. refl;
  tags_0 = λ ws. refl;
  tags_4096 = record { passes = λ ws e. rw e; short = λ ws e. rw e };
  tags_4097 = λ ws. refl;
  words_15 = λ ws e. rw e;
  words_16 = λ ws e. rw e;
}

pub head_edges : HeadEdges
unfolding head_only three block_len layout_len in_limits head_of head_words bad_head write_word advance
head_edges = record {
  words_15 = λ ws e. every (rw e) refl refl;
  words_16 = every refl refl refl;
  sound = every refl refl refl;
  mark_below = every refl refl refl;
  mark_above = every refl refl refl;
  b_1 = every refl refl refl;
  b_2 = every refl refl refl;
  b_64 = every refl refl refl;
  b_65 = every refl refl refl;
  q_0 = every refl refl refl;
  q_1 = every refl refl refl;
  q_half = every refl refl refl;
  q_above_half = every refl refl refl;
  blocks_0 = every refl refl refl;
  blocks_1 = every refl refl refl;
  blocks_4096 = every refl refl refl;
  blocks_4097 = every refl refl refl;
  tags_0 = every refl refl refl;
  tags_1 = every refl refl refl;
  tags_4096 = every refl refl refl;
  tags_4097 = every refl refl refl;
  opened_all = every refl refl refl;
  opened_above = every refl refl refl;
  clock_last = every refl refl refl;
  clock_open = every refl refl refl;
  spare_1 = every refl refl refl;
  spare_2 = every refl refl refl;
  spare_3 = every refl refl refl;
  spare_4 = every refl refl refl;
  spare_5 = every refl refl refl;
  spare_6 = every refl refl refl;
  fill_0 = every refl refl refl;
  fill_1 = every refl refl refl;
  fill_5 = every refl refl refl;
  fill_6 = every refl refl refl;
  fill_none = every refl refl refl;
  short = every refl refl refl;
  long = refl;
}
