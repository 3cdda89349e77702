-- WHAT EVERY CALL BUT A START BEGINS WITH: a store whose head is read and whose words are enough.
use Rattle.std.specs.Prelude.{◌≡◌, true, List, ℕ, get_or}
use Rattle.std.proofs.Props.{props}
use Rattle.layout.specs.declared.settings.Settings.{Settings}
use Rattle.layout.specs.declared.head.Head.{Head}
use Rattle.layout.specs.Memory.{Memory}
use Rattle.layout.specs.Sizes.{mark}
use Rattle.layout.specs.Fields.{head_mark}
use Rattle.layout.specs.Head.{head_of, spare_zero}
use Rattle.layout.specs.HeadLaws.{SoundHead}
use Rattle.layout.specs.OnWords.{over, Held}

-- the store whose head is h, with its mark and its zeros, at least as long as its layout
pub record Readable (ws : List ℕ) (h : Head) : Type 0 where
  pub is : h ≡ head_of ws
  pub sound : SoundHead h
  pub marked : get_or ws head_mark 0 ≡ mark
  pub spare : spare_zero ws ≡ true
  pub held : Held h.settings ws

-- the words as a memory, by the settings of a head
abbrev pub words_of : Head → List ℕ → Memory
words_of h ws = (over h.settings).read ws

-- the same of the blocks alone: s are the settings in the head
pub record Blocks (ws : List ℕ) (s : Settings) : Type 0 where
  pub is : s ≡ (head_of ws).settings
  pub held : Held s ws

-- (it is one fact, so that a value may keep it)
pub readable_prop : (ws : List ℕ) (h : Head) → IsProp (Readable ws h)
unfolding over
readable_prop ws h = hlevel props
