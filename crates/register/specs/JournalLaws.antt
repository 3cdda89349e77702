-- A replay under way: what is left of the journal, played on from here, gives what the whole gives from the beginning.
use Rattle.std.specs.Prelude.{◌≡◌, refl, ◌≢◌, Bool, true, false, List, [], ◌∷◌, ◌++◌, Option, Some, None, eqb, ℕ, suc, ◌+◌, ◌*◌, ◌≤◌, ◌<◌, length}
use mir.Val.{bool_byte}
use Rattle.std.proofs.Common.{sym, ap, ◌∙◌, subst, arith, length-append, ne_eqb}
use Rattle.base.specs.Sums.{is, is_small}
use Rattle.calls.specs.Calls.{Call, accepted}
use Rattle.calls.specs.Step.{step}
use Rattle.calls.specs.History.{words_after, trace}
use Rattle.theory.specs.AnyCall.{every_call}
use Rattle.register.specs.Exports.{Exported}
use Rattle.register.specs.ExportLaws.{told_zero}
use Rattle.register.specs.Journal.{JournalEntry, says, nothing, entry_of, entry_at, before, journal_of, accepted_in, Replayed, playing, after_entry, Plays}

-- ---- one entry
pub entered : {ws : List ℕ} {e : JournalEntry} {call : Call} {n : ℕ} {words : List ℕ} → e ≡ says call → Exported (step ws call) n words
    → Plays ws e (Some (eqb n 0)) words
entered {ws} {call = call} f p = record {
  counted = ap (λ k. Some (eqb k 0)) p.number ∙ ap Some (told_zero ws call) ∙ ap (playing ws) (sym f);
  store = p.store ∙ ap (after_entry ws) (sym f);
}

pub passed : {ws : List ℕ} {e : JournalEntry} → e ≡ nothing → Plays ws e None ws
passed {ws} f = record { counted = ap (playing ws) (sym f); store = ap (after_entry ws) (sym f) }

-- which entry a kind makes
module _ {kind : ℕ} (a b c d : ℕ) where
  pub of_kind : (k : ℕ) → kind ≡ k → entry_of kind a b c d ≡ entry_of k a b c d
  of_kind k e = ap (λ n. entry_of n a b c d) e

  pub of_none : kind ≢ 1 → kind ≢ 2 → kind ≢ 3 → kind ≢ 4 → kind ≢ 5 → entry_of kind a b c d ≡ nothing
  of_none f g h i j = simp (ne_eqb _ _ f, ne_eqb _ _ g, ne_eqb _ _ h, ne_eqb _ _ i, ne_eqb _ _ j)

-- ---- what is left of a journal
short : (l : List ℕ) → length l < 6 → journal_of l ≡ []
unfolding journal_of
short [] h = refl
short (a ∷ []) h = refl
short (a ∷ b ∷ []) h = refl
short (a ∷ b ∷ c ∷ []) h = refl
short (a ∷ b ∷ c ∷ d ∷ []) h = refl
short (a ∷ b ∷ c ∷ d ∷ e ∷ []) h = refl
short (a ∷ b ∷ c ∷ d ∷ e ∷ f ∷ l) h = absurd (omega (arith, h))

six : (e rest : List ℕ) → length e ≡ 6 → journal_of (e ++ rest) ≡ before (entry_at e 0) (journal_of rest)
unfolding journal_of
six [] rest h = absurd (omega (arith, h))
six (a ∷ []) rest h = absurd (omega (arith, h))
six (a ∷ b ∷ []) rest h = absurd (omega (arith, h))
six (a ∷ b ∷ c ∷ []) rest h = absurd (omega (arith, h))
six (a ∷ b ∷ c ∷ d ∷ []) rest h = absurd (omega (arith, h))
six (a ∷ b ∷ c ∷ d ∷ e ∷ []) rest h = absurd (omega (arith, h))
six (a ∷ b ∷ c ∷ d ∷ e ∷ f ∷ []) rest h = refl
six (a ∷ b ∷ c ∷ d ∷ e ∷ f ∷ g ∷ l) rest h = absurd (omega (arith, h))

-- one if it was accepted, as a number
pub byte_is : (b : Bool) → bool_byte b ≡ is b
byte_is true = refl
byte_is false = refl

-- ---- the loop, where `left` is what is left of the journal j
pub record Going (ws j store left : List ℕ) (entries accepted : ℕ) : Type 0 where
  pub place : 6 * entries + length left ≡ length j
  pub long : length store ≡ length ws
  pub few : accepted ≤ entries
  pub words : words_after ws (journal_of j) ≡ words_after store (journal_of left)
  pub count : length (journal_of j) ≡ entries + length (journal_of left)
  pub heard : accepted_in (trace ws (journal_of j)) ≡ accepted + accepted_in (trace store (journal_of left))

pub going : {ws j left : List ℕ} → left ≡ j → Going ws j ws left 0 0
going e = rw e (record {
  place = omega arith;
  long = refl;
  few = omega arith;
  words = refl;
  count = omega arith;
  heard = omega arith;
})

-- one entry more
record Next (store store' : List ℕ) (one : ℕ) (l rest : List Call) : Type 0 where
  small : one ≤ 1
  long : length store' ≡ length store
  words : words_after store l ≡ words_after store' rest
  count : length l ≡ 1 + length rest
  heard : accepted_in (trace store l) ≡ one + accepted_in (trace store' rest)

heard_next : {store store' : List ℕ} {one : Bool} {l rest : List Call} (e : JournalEntry) → Some one ≡ playing store e → store' ≡ after_entry store e
    → l ≡ before e rest → Next store store' (is one) l rest
heard_next {store} {store'} {one} {l} {rest} (says c) t w f =
    let n : one ≡ accepted (step store c).answer = cc in
    record {
      small = is_small one;
      long = ap length w ∙ (every_call store c).same_lengths.0;
      words = ap (words_after store) f ∙ ap (λ x. words_after x rest) (sym w);
      count = let k : length l ≡ suc (length rest) = rw f in omega (arith, k);
      heard = rw (f, n, w);
    }
heard_next nothing t w f = let z : ◌≡◌ {A = ℕ} 0 1 = cc in absurd (omega arith)

other_next : {store store' : List ℕ} {l : List Call} (e : JournalEntry) (rest : List Call) → None ≡ playing store e → store' ≡ after_entry store e → l ≡ before e rest
    → (store' ≡ store) × (l ≡ [])
other_next (says c) rest t w f = let z : ◌≡◌ {A = ℕ} 0 1 = cc in absurd (omega arith)
other_next nothing rest t w f = (w, f)

module _ {ws j store left : List ℕ} {entries accepted : ℕ} (g : Going ws j store left entries accepted) where
  -- nothing is left
  done : journal_of left ≡ [] → Replayed ws j (record { entries = entries; accepted = accepted }) store
  done e =
      let n : length (journal_of left) ≡ 0 = rw e in
      let m : accepted_in (trace store (journal_of left)) ≡ 0 = rw e in
      record {
        store = sym (g.words ∙ ap (words_after store) e);
        entries = omega (arith, g.count, n);
        accepted = omega (arith, g.heard, m);
      }

  pub at_end : length left < 6 → Replayed ws j (record { entries = entries; accepted = accepted }) store
  at_end h = done (short left h)

  module _ (entry left' : List ℕ) (cut : left ≡ entry ++ left') (long : length entry ≡ 6) {r : Option Bool} {store' : List ℕ}
      (e : Plays store (entry_at entry 0) r store') where
    its : journal_of left ≡ before (entry_at entry 0) (journal_of left')
    its = ap journal_of cut ∙ six entry left' long

    -- an entry of another kind
    pub at_other : r ≡ None → Replayed ws j (record { entries = entries; accepted = accepted }) store'
    at_other f =
        let o = other_next (entry_at entry 0) (journal_of left') (sym f ∙ e.counted) e.store its in
        subst (λ (w : List ℕ). Replayed ws j (record { entries = entries; accepted = accepted }) w) (sym o.0) (done o.1)

    pub at_next : {one : Bool} → r ≡ Some one → Going ws j store' left' (entries + 1) (accepted + is one)
    at_next {one} f =
        let m = heard_next (entry_at entry 0) (sym f ∙ e.counted) e.store its in
        let cut-length : length left ≡ length entry + length left' = rw cut (length-append entry left') in
        record {
          place = omega (arith, g.place, cut-length, long);
          long = m.long ∙ g.long;
          few = omega (arith, g.few, m.small);
          words = g.words ∙ m.words;
          count = omega (arith, g.count, m.count);
          heard = omega (arith, g.heard, m.heard);
        }
