-- What is known of the interpreter that contracts name, without opening it.
use Rattle.std.specs.Prelude.{◌≡◌, List, ℕ, get_or}
use Rattle.std.proofs.Math.Path.{refl}
use Rattle.layout.specs.declared.settings.Settings.{Settings}
use Rattle.layout.specs.declared.address.Address.{Address}
use Rattle.layout.specs.declared.address.Address.TheVariants.{Head}
use Rattle.layout.specs.Address.{Valid}
use Rattle.layout.specs.Memory.{Memory}
use Rattle.layout.specs.Words.{read_word, Fits}
use Rattle.layout.specs.Program.{Prog}
use Rattle.layout.specs.ProgramLaws.{Safe}
use Rattle.layout.specs.OnWords.{on_words, over}

module _ (s : Settings) where
  -- the addresses of the layout may be read
  pub over_may : (a : Address) → Valid s a → (over s).May a
  unfolding over
  over_may a v = v

  pub may_valid : (a : Address) → (over s).May a → Valid s a
  unfolding over
  may_valid a v = v

  pub over_read : (ws : List ℕ) (a : Address) → (over s).read ws a ≡ read_word s ws a
  unfolding over
  over_read ws a = refl

  -- a word of the head lies at its own number
  pub over_head : (ws : List ℕ) (j : ℕ) → (over s).read ws (Head j) ≡ get_or ws j 0
  unfolding over read_word
  over_head ws j = refl

  -- words as long as the layout are a store
  pub over_good : {ws : List ℕ} → Fits s ws → (over s).Good ws
  unfolding over
  over_good h = h

  pub over_fits : {ws : List ℕ} → (over s).Good ws → Fits s ws
  unfolding over
  over_fits h = h

  -- what is safe by the layout's places is safe
  pub over_safe : {A : Type 0} (p : Prog A) (f : Memory) → Safe (on_words s) p f → Safe (over s) p f
  unfolding over
  over_safe p f h = h
