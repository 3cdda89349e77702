-- DEMAND 3 OF RUNNING CODE: for a fresh register, after a replay of any journal, what is claimed of every list of calls (calls.specs.Claims) holds of the
-- words left. It follows from the theorem over the definitions (theory.specs.Whole) and the replay's own contract.
use Rattle.std.specs.Prelude.{◌≡◌, true, List, ℕ}
use Rattle.std.proofs.Common.{sym, subst}
use Rattle.layout.specs.declared.settings.Settings.{Settings}
use Rattle.calls.specs.Calls.{Start, accepted}
use Rattle.calls.specs.Step.{step}
use Rattle.calls.specs.History.{words_after, trace, opening, account}
use Rattle.calls.specs.Claims.{Holds}
use Rattle.theory.specs.Whole.{whole_list}
use Rattle.register.specs.Journal.{journal_of}

-- `ws` is a store of any length as an accepted start left it
pub record Fresh (ws : List ℕ) (s : Settings) : Type 0 where
  pub lent : List ℕ
  pub started : accepted (step lent (Start s)).answer ≡ true
  pub left : ws ≡ (step lent (Start s)).store

pub record Rebuilt (ws journal ws' : List ℕ) : Type 0 where
  pub holds : {s : Settings} → Fresh ws s → Holds ws' (account (opening s) (trace ws (journal_of journal)))

pub rebuilt : {ws journal ws' : List ℕ} → ws' ≡ words_after ws (journal_of journal) → Rebuilt ws journal ws'
rebuilt {ws} {journal} {ws'} e = record {
  holds = λ {s} f.
      let l = journal_of journal in
      subst (λ (w : List ℕ). Holds w (account (opening s) (trace ws l))) (sym e)
      (subst (λ (us : List ℕ). Holds (words_after us l) (account (opening s) (trace us l))) (sym f.left)
      ((whole_list f.lent s l).after f.started));
}
