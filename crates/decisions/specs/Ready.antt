-- What is known of the words where a call is looked at, and where it may go on.
use Rattle.std.specs.Prelude.{◌≡◌, ◌≢◌, false, List, ℕ, ◌+◌, ◌≤◌, ◌<◌, length}
use Rattle.std.proofs.Props.{props}
use Rattle.layout.specs.declared.settings.Settings.{Settings}
use Rattle.layout.specs.declared.head.Head.{Head}
use Rattle.layout.specs.declared.address.Address.TheVariants.{Dir}
use Rattle.layout.specs.Sizes.{OPEN, head_len, layout_len}
use Rattle.layout.specs.Memory.{Memory}
use Rattle.layout.specs.Settings.{Within}
use Rattle.layout.specs.OnWords.{over, Held}
use Rattle.queries.specs.declared.opened.Opened.{Opened}
use Rattle.queries.specs.Readable.{Readable, words_of}
use Rattle.calls.specs.Refusals.{tag_block, copies, unsound_set, unsound_clear, blocks_out}

-- the words as a memory
abbrev pub words_in : Opened → Memory
words_in o = words_of o.head o.store.now

-- p is the place of a tag's standing record
pub record PlaceOf (o : Opened) (tag p : ℕ) : Type 0 where
  pub is : p ≡ words_in o (Dir tag)
  pub some : 1 ≤ p

-- (it is one fact, so that a value may keep it)
pub place_of_prop : (o : Opened) (tag p : ℕ) → IsProp (PlaceOf o tag p)
unfolding over
place_of_prop o tag p = hlevel props

-- ---- where no refusal applies
-- a change or clock move at a second
pub record ReadyTime (ws : List ℕ) (h : Head) (second : ℕ) : Type 0 where
  pub ready : Readable ws h
  pub not_open : second < OPEN
  pub not_early : h.cursor.clock ≤ second

-- a set
pub record ReadySet (ws : List ℕ) (h : Head) (second tag : ℕ) : Type 0 where
  pub time : ReadyTime ws h second
  pub has_tag : tag < h.settings.tags
  pub free : words_of h ws (Dir tag) ≡ 0
  pub sound : unsound_set h (words_of h ws) ≡ false
  pub room : blocks_out h 1 ≡ false

-- a clear (more = 0) or a new reading (more = 1)
pub record ReadyClear (more : ℕ) (ws : List ℕ) (h : Head) (second tag : ℕ) : Type 0 where
  pub time : ReadyTime ws h second
  pub has_tag : tag < h.settings.tags
  pub standing : words_of h ws (Dir tag) ≢ 0
  pub sound : unsound_clear h (words_of h ws) more tag ≡ false
  pub room : blocks_out h (copies h (words_of h ws) (tag_block h (words_of h ws) tag) + more) ≡ false

-- a start
pub record ReadyStart (ws : List ℕ) (s : Settings) : Type 0 where
  pub within : Within s
  pub head : head_len ≤ length ws
  pub long : layout_len s ≤ length ws
  pub held : Held s ws
