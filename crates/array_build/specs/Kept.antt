-- WHAT EVERY FUNCTION OF THIS BUILD LEAVES: words that are still a store of the same settings, and a head with those settings.
use Rattle.std.specs.Prelude.{◌≡◌, refl, List, ℕ}
use Rattle.std.proofs.Common.{sym, ◌∙◌, subst}
use Rattle.layout.specs.declared.settings.Settings.{Settings}
use Rattle.layout.specs.declared.head.Cursor.{Cursor}
use Rattle.layout.specs.declared.head.Head.{Head}
use Rattle.layout.specs.Program.{Prog}
use Rattle.layout.specs.Ran.{Ran}
use Rattle.layout.specs.Moved.{Moved}
use Rattle.layout.specs.OnWords.{over, Held}

pub record Kept (h r : Head) (ws : List ℕ) : Type 0 where
  pub held : Held h.settings ws
  pub settings : r.settings ≡ h.settings

pub kept_here : {h : Head} {ws : List ℕ} → Held h.settings ws → Kept h h ws
kept_here g = record { held = g; settings = refl }

-- the head that a part left goes with the words that it left, and with those of a part after it
pub still_held : {h r : Head} {ws us : List ℕ} → Kept h r ws → Held h.settings us → Held r.settings us
still_held {us = us} k g = subst (λ (s : Settings). Held s us) (sym k.settings) g

pub kept_held : {h r : Head} {ws : List ℕ} → Kept h r ws → Held r.settings ws
kept_held k = still_held k k.held

-- one part of a change after another
pub kept_on : {h d r : Head} {ws us : List ℕ} → Kept h d ws → Kept d r us → Kept h r us
kept_on {us = us} k l = record { held = subst (λ (s : Settings). Held s us) k.settings l.held; settings = l.settings ∙ k.settings }

-- ---- after a part that is proved to run its program
pub held_ran : {A : Type 0} {s : Settings} {p : Prog A} {x : A} {ws us : List ℕ} → Held s ws → Ran (over s) p ws x us → Held s us
held_ran g r = record { good = r.good; within = g.within }

pub kept_moved : {h r : Head} {p : Prog Cursor} {ws us : List ℕ} → Held h.settings ws → Moved h p ws r us → Kept h r us
kept_moved g m = record { held = held_ran g m.ran; settings = m.settings }
