-- A loop over a list, in order: a turn for each number, whatever the turn does.
use Rattle.std.proofs.Common.{◌≡◌, refl, ◌∙◌, List, [], ◌∷◌, ℕ, length}
use Rattle.layout.specs.declared.settings.Settings.{Settings}
use Rattle.layout.specs.declared.head.Cursor.{Cursor}
use Rattle.layout.specs.declared.head.Head.{Head}
use Rattle.layout.specs.Program.{Prog, bind, each}
use Rattle.layout.specs.Ran.{Ran, Left, begin, turn, end, likewise, each_more, each_end, ran_length}
use Rattle.layout.specs.Moved.{Moved}
use Rattle.layout.specs.OnWords.{over}
use Rattle.layout.specs.Able.{Able, able_first, able_next, able_likewise}

-- the numbers that are left, done from these words and this head, give what all of them gave from the start; and they may be done
pub record Going (body : Settings → ℕ → Cursor → Prog Cursor) (ws₀ : List ℕ) (h₀ : Head) (all : List ℕ) (ws : List ℕ) (h : Head) (left : List ℕ)
    : Type 0 where
  pub rest : Left (over h₀.settings) (each (body h₀.settings) all h₀.cursor) ws₀ (each (body h₀.settings) left h.cursor) ws
  pub able : Able h₀.settings (each (body h₀.settings) left h.cursor) ws
  pub settings : h.settings ≡ h₀.settings
  pub long : length ws ≡ length ws₀

pub going : (body : Settings → ℕ → Cursor → Prog Cursor) {ws : List ℕ} {h : Head} {all left : List ℕ}
    → left ≡ all → Able h.settings (each (body h.settings) all h.cursor) ws → Going body ws h all ws h left
going body e a = rw e record { rest = begin; able = a; settings = refl; long = refl }

module _ {body : Settings → ℕ → Cursor → Prog Cursor} {ws₀ ws : List ℕ} {h₀ h : Head} {all left : List ℕ} (g : Going body ws₀ h₀ all ws h left) where
  -- no number is left: the loop has run
  pub going_end : left ≡ [] → Moved h₀ (each (body h₀.settings) all h₀.cursor) ws₀ h ws
  going_end e = record { ran = end (likewise (each_end (body h₀.settings) left h.cursor e) g.rest) g.able.agree.good; settings = g.settings }

  module _ {k : ℕ} {others : List ℕ} (e : left ≡ k ∷ others) where
    next : each (body h₀.settings) left h.cursor ≡ bind (body h₀.settings k h.cursor) (λ d. each (body h₀.settings) others d)
    next = each_more (body h₀.settings) left k others h.cursor e

    -- else the turn of the first may run,
    pub going_able : Able h.settings (body h.settings k h.cursor) ws
    going_able = rw g.settings (able_first (able_likewise next g.able))

    -- and after it the others are left
    pub going_on : {ws' : List ℕ} {h' : Head} → Moved h (body h.settings k h.cursor) ws h' ws' → Going body ws₀ h₀ all ws' h' others
    going_on {ws'} {h'} m =
        let ran : Ran (over h₀.settings) (body h₀.settings k h.cursor) ws h'.cursor ws' = rw g.settings at m.ran in
        record {
          rest = turn (likewise next g.rest) ran;
          able = able_next (able_likewise next g.able) ran;
          settings = m.settings ∙ g.settings;
          long = ran_length ran ∙ g.long;
        }
