-- HOW THE CODE'S HEAD AND THE PROGRAM'S CURSOR ARE ONE: a program threads the cursor over fixed settings, the code hands on the whole head. The rules
-- follow the code as those of Ran do.
use Rattle.std.specs.Prelude.{◌≡◌, refl, Bool, true, false, List, ℕ}
use Rattle.std.proofs.Common.{sym, ap₂, subst}
use Rattle.layout.specs.declared.settings.Settings.{Settings}
use Rattle.layout.specs.declared.head.Cursor.{Cursor}
use Rattle.layout.specs.declared.head.Head.{Head}
use Rattle.layout.specs.Program.{Prog, ret, bind, when, run}
use Rattle.layout.specs.Head.{onward}
use Rattle.layout.specs.Ran.{Ran, done, then, taken, passed}
use Rattle.layout.specs.OnWords.{over}

-- the program p, on the words w over the settings of h, moved h on to r and left the words w': the cursor of r is what p gave, its settings are those of h
pub record Moved (h : Head) (p : Prog Cursor) (w : List ℕ) (r : Head) (w' : List ℕ) : Type 0 where
  pub ran : Ran (over h.settings) p w r.cursor w'
  pub settings : r.settings ≡ h.settings

-- ---- the head made anew: h with the cursor to which a call moved it on
pub anew : {h d r : Head} {p : Prog Cursor} {w w' : List ℕ} → Moved h p w d w' → r ≡ onward h d.cursor → Moved h p w r w'
anew {h} {d} {r} {p} {w} {w'} m e = subst (λ (x : Head). Moved h p w x w') (sym e) (record { ran = m.ran; settings = refl })

-- ---- nothing is left to do: the head r is the next one, as it stands or as one of its methods answers it
pub stays : {h r : Head} {w : List ℕ} → r.settings ≡ h.settings → (over h.settings).Good w → Moved h (ret r.cursor) w r w
stays e g = record { ran = done g; settings = e }

pub moves : {h r : Head} {c : Cursor} {w : List ℕ} → r ≡ onward h c → (over h.settings).Good w → Moved h (ret c) w r w
moves {h} {c = c} e g = anew {d = onward h c} (record { ran = done g; settings = refl }) e

-- ---- a call that answers a word or nothing, then the rest
pub after : {A : Type 0} {h r : Head} {p : Prog A} {k : A → Prog Cursor} {w w₁ w₂ : List ℕ} {x : A}
    → Ran (over h.settings) p w x w₁ → Moved h (k x) w₁ r w₂ → Moved h (bind p k) w r w₂
after e m = record { ran = then e m.ran; settings = m.settings }

-- ---- a call that moves the head on to d, then the rest from d, which is h with another cursor
pub onto : {h d r : Head} {p : Prog Cursor} {k : Cursor → Prog Cursor} {w w₁ w₂ : List ℕ}
    → Moved h p w d w₁ → Moved (onward h d.cursor) (k d.cursor) w₁ r w₂ → Moved h (bind p k) w r w₂
onto m n = record { ran = then m.ran n.ran; settings = n.settings }

-- ---- a branch
pub if_taken : {h r : Head} {b : Bool} {p q : Prog Cursor} {w w' : List ℕ} → b ≡ true → Moved h p w r w' → Moved h (when b p q) w r w'
if_taken e m = record { ran = taken e m.ran; settings = m.settings }

pub if_passed : {h r : Head} {b : Bool} {p q : Prog Cursor} {w w' : List ℕ} → b ≡ false → Moved h q w r w' → Moved h (when b p q) w r w'
if_passed e m = record { ran = passed e m.ran; settings = m.settings }

-- ---- the next head is the settings of h with the cursor that the program gave
pub next_head : {h r : Head} {p : Prog Cursor} {w w' : List ℕ} → Moved h p w r w' → r ≡ onward h (run (over h.settings) p w).0
next_head m = ap₂ (λ (s : Settings) (c : Cursor). record { settings = s; cursor = c }) m.settings (sym m.ran.value)
