-- EVERY QUERY ON ANY WORDS: what its reply must be (FairQuery), the three ways to reply, that a reply by its tests is one (range_query), and that what is
-- claimed of every call then holds of the query (every_query), whichever it is: it leaves the store, and so book, log and account, as they are.
use Rattle.std.specs.Prelude.{◌≡◌, refl, ◌≢◌, ◌↔◌, true, false, cond, List, [], ◌∷◌, map, ℕ, zero, ◌*◌, ◌≤◌, length, eqb}
use Rattle.std.proofs.Common.{sym, ap, ◌∙◌, subst, true≢false, arith, length-append, length-drop, ne_eqb}
use Rattle.std.proofs.lemmas.List.{length-replicate}
use Rattle.base.specs.Sums.{All}
use Rattle.base.specs.Branch.{is?}
use Rattle.layout.specs.declared.head.Head.{Head}
use Rattle.layout.specs.Sizes.{row_len}
use Rattle.calls.specs.Calls.{Query, LookBack, Window, buffers_of, Ask, Answer, Done, Refused, accepted, Row, QueryReply}
use Rattle.calls.specs.Refusals.{Test, refusal}
use Rattle.calls.specs.LookBack.{row_words, written}
use Rattle.calls.specs.Range.{zeroed, range_reply}
use Rattle.calls.specs.Step.{answer_to, query_tests}
use Rattle.calls.specs.Claims.{First, EveryCall, QueryKind}
use Rattle.theory.specs.TestLaws.{clash, numbered, Decided, free, turned, refused}
use Rattle.theory.specs.OneChange.{small_same}

-- a reply to the tests l, with the buffers that were lent
pub record FairQuery (Kind : Answer → Type 0) (l : List Test) (before : List (List ℕ)) (r : QueryReply) : Type 0 where
  pub accepted_iff : (accepted r.answer ≡ true) ↔ All (λ x. x.applies ≡ false) l
  pub refused_first : (n : ℕ) → r.answer ≡ Refused n → First l n
  pub buffers_kept : (n : ℕ) → r.answer ≡ Refused n → n ≢ 12 → r.lent ≡ before
  pub buffers_zero : r.answer ≡ Refused 12 → r.lent ≡ zeroed before
  pub kind : Kind r.answer
  pub same_lengths : map length r.lent ≡ map length before

zeroed_lengths : (before : List (List ℕ)) → map length (zeroed before) ≡ map length before
zeroed_lengths [] = refl
zeroed_lengths (x ∷ l) = rw (length-replicate {A = ℕ} (length x) 0, zeroed_lengths l)

module _ {Kind : Answer → Type 0} {l : List Test} {before : List (List ℕ)} where
  -- answered
  pub answered_query : {a : Answer} {lent : List (List ℕ)} → accepted a ≡ true → Kind a → All (λ x. x.applies ≡ false) l
      → map length lent ≡ map length before → FairQuery Kind l before (record { answer = a; lent = lent })
  answered_query t h f k = record {
    accepted_iff = (λ e. f, λ e. t);
    refused_first = λ n e. absurd (true≢false (sym t ∙ ap accepted e));
    buffers_kept = λ n e d. absurd (true≢false (sym t ∙ ap accepted e));
    buffers_zero = λ e. absurd (true≢false (sym t ∙ ap accepted e));
    kind = h;
    same_lengths = k;
  }

  -- refused with another number than 12
  pub turned_query : (n : ℕ) → Kind (Refused n) → n ≢ 12 → First l n → FairQuery Kind l before (record { answer = Refused n; lent = before })
  turned_query n k d f = record {
    accepted_iff = (λ e. absurd (let z : ◌≡◌ {A = ℕ} 0 1 = cc in omega arith), λ a. absurd (clash a f));
    refused_first = λ m e. let z : n ≡ m = cc in rw z at f;
    buffers_kept = λ m e c. refl;
    buffers_zero = λ e. let z : n ≡ 12 = cc in absurd (d z);
    kind = k;
    same_lengths = refl;
  }

  -- refused with 12
  pub unsound_query : {n : ℕ} → Kind (Refused n) → n ≡ 12 → First l n → FairQuery Kind l before (record { answer = Refused n; lent = zeroed before })
  unsound_query {n} k e f = record {
    accepted_iff = (λ e. absurd (let z : ◌≡◌ {A = ℕ} 0 1 = cc in omega arith), λ a. absurd (clash a f));
    refused_first = λ m e. let z : n ≡ m = cc in rw z at f;
    buffers_kept = λ m q c. let z : n ≡ m = cc in absurd (c (sym z ∙ e));
    buffers_zero = λ e. refl;
    kind = k;
    same_lengths = zeroed_lengths before;
  }

-- no query is answered with a head
no_head : (q : Query) (h : Head) → QueryKind q (Done h) → ⊥
no_head (LookBack t rows list) h k = k
no_head (Window first last rows) h k = k

pub every_query : (ws : List ℕ) (q : Query) → FairQuery (QueryKind q) (query_tests ws q) (buffers_of q) (answer_to ws q) → EveryCall ws (Ask q)
every_query ws q f = record {
  accepted_iff = f.accepted_iff;
  refused_first = f.refused_first;
  store_kept = λ n e. refl;
  buffers_kept = f.buffers_kept;
  buffers_zero = f.buffers_zero;
  of_its_kind = f.kind;
  head_stored = λ h e. absurd (no_head q h (subst (QueryKind q) e f.kind));
  foretold = λ a. tt;
  small = λ k. small_same ws;
  same_lengths = (refl, f.same_lengths);
  query_reads = λ r e. refl;
}

-- ---- a reply by its tests (Range), of which 12 zeros the buffers
pub range_query : (Kind : Answer → Type 0) (l : List Test) (a : Answer) (after before : List (List ℕ)) → numbered l ≡ true → accepted a ≡ true → Kind a
    → ((n : ℕ) → Kind (Refused n)) → (All (λ x. x.applies ≡ false) l → map length after ≡ map length before) → FairQuery Kind l before (range_reply l a after before)
range_query Kind l a after before k t h may fits = go (refusal l) (refused l k)
  where
    go : (n : ℕ) → Decided l n
        → FairQuery Kind l before (cond (eqb n 0) (record { answer = a; lent = after })
        (cond (eqb n 12) (record { answer = Refused 12; lent = zeroed before }) (record { answer = Refused n; lent = before })))
    go zero (free f) = answered_query t h f (fits f)
    go n (turned p f) = rw (ne_eqb n 0 (omega arith)) (is? n 12
        (λ z. rw z (unsound_query (may 12) refl (rw z at f)))
        (λ d. rw (ne_eqb n 12 d) (turned_query n (may n) d f)))

-- ---- rows in a buffer
pub row_words_length : (r : List Row) → length (row_words r) ≡ row_len * length r
row_words_length [] = refl
row_words_length (x ∷ r) = omega (arith, row_words_length r)

pub written_length : (words buffer : List ℕ) → length words ≤ length buffer → length (written words buffer) ≡ length buffer
written_length words buffer h = simp (length-append, length-drop) (omega arith)
