-- THE THEOREMS: demand 3 for every list of calls from a fresh register (whole_list), and demand 2, which follows from it (demand_2). Every call on any
-- words is in AnyCall (every_call), a store alike in StoreAlike (store_alike) and EveryWindow (window_alike), any block's words in Meanings (any-block),
-- any records that a window reads in Latest (any-records).
use Rattle.std.specs.Prelude.{◌≡◌, true, cond, List, [], ◌∷◌, ℕ}
use Rattle.layout.specs.declared.settings.Settings.{Settings}
use Rattle.calls.specs.Calls.{Call, Start, accepted}
use Rattle.calls.specs.Step.{step}
use Rattle.calls.specs.History.{Account, opening, enters, account, words_after, trace}
use Rattle.calls.specs.Claims.{Holds, WholeList, Demand2}
use Rattle.theory.specs.SoFar.{so-far}
use Rattle.theory.specs.AnyCall.{every_call}
use Rattle.theory.specs.StoreAlike.{store_alike}
use Rattle.theory.specs.EveryWindow.{window_alike}
use Rattle.theory.specs.Honest.{Honest, agrees, bound}
use Rattle.theory.specs.HonestView.{answered}
use Rattle.theory.specs.WindowClaims.{crossed}
use Rattle.theory.specs.HonestStep.{honest_start, honest_step}
use Rattle.theory.specs.ByAccount.{settings_is, clock_is, allowed_iff, refused-by, never_unsound, answered_iff, window_iff, brief}
use Rattle.theory.specs.Meanings.{means}

-- what honest words are claimed to be
holds : {ws : List ℕ} {a : Account} → Honest ws a → Holds ws a
holds {ws} i = record {
  settings = settings_is i;
  clock = clock_is i;
  agrees = agrees i;
  bound = bound i;
  never_unsound = never_unsound i;
  accepted_iff = allowed_iff i;
  refused_first = refused-by i;
  answered_iff = answered_iff i;
  answered = answered i;
  window_iff = window_iff i;
  window = crossed i;
  so-far = so-far i.timed;
  brief = brief i;
  means = means i;
  alike = store_alike ws;
  window_alike = window_alike ws;
}

-- a list of calls keeps words honest, refused ones and further starts included
honest_list : (ws : List ℕ) (a : Account) (l : List Call) → Honest ws a → Honest (words_after ws l) (account a (trace ws l))
honest_list ws a [] i = i
honest_list ws a (c ∷ l) i = honest_list (step ws c).store (cond (accepted (step ws c).answer) (enters a c) a) l (honest_step i c)

-- a fresh register
fresh : (ws : List ℕ) (s : Settings) → accepted (step ws (Start s)).answer ≡ true → Honest (step ws (Start s)).store (opening s)
fresh ws s e = honest_start ws s ((every_call ws (Start s)).accepted_iff.0 e)

-- DEMAND 3: after any list of calls from a fresh register.
pub whole_list : (ws : List ℕ) (s : Settings) (calls : List Call) → WholeList ws s calls
whole_list ws s calls = record { after = λ e. holds (honest_list (step ws (Start s)).store (opening s) calls (fresh ws s e)) }

-- DEMAND 2.
pub demand_2 : (ws : List ℕ) (s : Settings) (calls : List Call) → Demand2 ws s calls
demand_2 ws s calls = record {
  accepted_iff = λ words c. (every_call words c).accepted_iff;
  never_unsound = λ e. ((whole_list ws s calls).after e).never_unsound;
  log = λ e t rows list v q. let a = ((whole_list ws s calls).after e).answered t rows list v q in (a.log, a.once);
}
