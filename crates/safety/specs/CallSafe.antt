-- ON ANY MEMORY, a change to which no refusal applies meets addresses of the layout only, and leaves a cursor within its bounds. What the code of the
-- changes rests on: no index, sum or link goes out of range.
use Rattle.std.specs.Prelude.{◌≡◌, refl, ◌≢◌, false, List, ℕ, ◌+◌, ◌≤◌, ◌<◌}
use Rattle.std.proofs.Common.{arith, lit≤}
use Rattle.layout.specs.declared.settings.Settings.{Settings}
use Rattle.layout.specs.declared.head.Cursor.{Cursor}
use Rattle.layout.specs.declared.head.Head.{Head}
use Rattle.layout.specs.declared.address.Address.TheVariants.{Dir}
use Rattle.layout.specs.Sizes.{OPEN}
use Rattle.layout.specs.Settings.{Within}
use Rattle.layout.specs.Memory.{Memory}
use Rattle.layout.specs.Program.{Prog}
use Rattle.layout.specs.ProgramLaws.{Safe}
use Rattle.layout.specs.Cursor.{store_cursor}
use Rattle.layout.specs.HeadLaws.{SoundHead}
use Rattle.layout.specs.OnWords.{on_words, over, Held}
use Rattle.layout.specs.OverLaws.{over_safe}
use Rattle.layout.specs.Able.{Able}
use Rattle.calls.specs.Placing.{clear_tag, finish, set_program, clear_program, update_program, advance_program}
use Rattle.calls.specs.Refusals.{tag_block, copies, unsound_set, unsound_clear, blocks_out}
use Rattle.safety.specs.Goes.{Goes, goes_on}
use Rattle.safety.specs.Room.{RoomFor, place_goes}
use Rattle.safety.specs.Leaving.{clear_goes}
use Rattle.safety.specs.TestLaws.{set_ready, clearable}

-- ---- the next cursor
pub record Next (s : Settings) (now : ℕ) (d : Cursor) : Type 0 where
  pub clock : d.clock ≡ now
  pub opened : d.opened ≤ s.blocks
  pub fill : d.fill ≤ s.block
  pub none : d.opened ≡ 0 → d.fill ≡ 0
  pub some : 1 ≤ d.opened → 1 ≤ d.fill

-- with a second that is not OPEN it makes a sound head
pub next_head : {s : Settings} {now : ℕ} {d : Cursor} → Within s → now < OPEN → Next s now d → SoundHead (record { settings = s; cursor = d })
next_head z ends i = record {
  within = z;
  opened = i.opened;
  clock = omega (arith, i.clock);
  fill = omega (arith, i.fill);
  none = i.none;
  some = i.some;
}

-- with no record to come the cursor is stored
finish_goes : (s : Settings) (now : ℕ) (c : Cursor) (f : Memory) → RoomFor s f 0 c.opened c.fill → Goes s (finish s now c) f (λ d g. Next s now d)
unfolding finish store_cursor
finish_goes s now c f i = record {
  safe = (((lit≤ tt, tt), ((lit≤ tt, tt), ((lit≤ tt, tt), ((lit≤ tt, tt), (lit≤ tt, tt))))), tt);
  leaves = record { clock = refl; opened = i.limit; fill = i.fits; none = i.none; some = λ a. omega (arith, i.some a) };
}

module _ {h : Head} (sound : SoundHead h) (f : Memory) (now : ℕ) where
  -- ---- the clock moves
  pub advance_goes : Goes h.settings (advance_program h.settings h.cursor now) f (λ d g. Next h.settings now d)
  unfolding advance_program
  advance_goes = finish_goes h.settings now h.cursor f (record {
    limit = sound.opened;
    fits = sound.fill;
    none = sound.none;
    some = λ a. omega (arith, sound.some a);
    few = omega arith;
    left = λ a. absurd (omega (arith, sound.fill));
    sound = λ a. absurd (omega (arith, sound.fill));
  })

  module _ (tag : ℕ) (known : tag < h.settings.tags) where
    -- ---- a tag is set
    pub set_goes : (reading : ℕ) → unsound_set h f ≡ false → blocks_out h 1 ≡ false
        → Goes h.settings (set_program h.settings h.cursor now tag reading) f (λ d g. Next h.settings now d)
    unfolding set_program
    set_goes reading bad out =
        goes_on (place_goes h.settings sound.within {m = 0} h.cursor f now tag reading (set_ready h sound f bad out) known)
        (λ d g i. finish_goes h.settings now d g i)

    -- ---- a tag is cleared, `more` records to come after it
    module _ (d : f (Dir tag) ≢ 0) where
      cleared_goes : (more : ℕ) → more ≤ 1 → unsound_clear h f more tag ≡ false → blocks_out h (copies h f (tag_block h f tag) + more) ≡ false
          → Goes h.settings (clear_tag h.settings h.cursor now tag) f (λ d g. RoomFor h.settings g more d.opened d.fill)
      cleared_goes more one bad out =
          clear_goes h.settings sound.within h.cursor f now tag known sound.opened (clearable h sound f tag d more bad one out)

      pub clear_call_goes : unsound_clear h f 0 tag ≡ false → blocks_out h (copies h f (tag_block h f tag) + 0) ≡ false
          → Goes h.settings (clear_program h.settings h.cursor now tag) f (λ d g. Next h.settings now d)
      unfolding clear_program
      clear_call_goes bad out = goes_on (cleared_goes 0 (omega arith) bad out) (λ e g i. finish_goes h.settings now e g i)

      pub update_goes : (reading : ℕ) → unsound_clear h f 1 tag ≡ false → blocks_out h (copies h f (tag_block h f tag) + 1) ≡ false
          → Goes h.settings (update_program h.settings h.cursor now tag reading) f (λ d g. Next h.settings now d)
      unfolding update_program
      update_goes reading bad out =
          goes_on (cleared_goes 1 (omega arith) bad out) (λ c g i.
          goes_on (place_goes h.settings sound.within {m = 0} c g now tag reading i known) (λ e g' j. finish_goes h.settings now e g' j))

-- ---- THE FOUR CHANGES: safe by the layout's places, and so over the words
module _ {h : Head} (sound : SoundHead h) (f : Memory) (now : ℕ) where
  pub advance_safe : Safe (on_words h.settings) (advance_program h.settings h.cursor now) f
  advance_safe = (advance_goes sound f now).safe

  pub advance_over : Safe (over h.settings) (advance_program h.settings h.cursor now) f
  advance_over = over_safe h.settings (advance_program h.settings h.cursor now) f advance_safe

  module _ (tag : ℕ) (known : tag < h.settings.tags) where
    pub set_safe : (reading : ℕ) → unsound_set h f ≡ false → blocks_out h 1 ≡ false
        → Safe (on_words h.settings) (set_program h.settings h.cursor now tag reading) f
    set_safe reading bad out = (set_goes sound f now tag known reading bad out).safe

    pub set_over : (reading : ℕ) → unsound_set h f ≡ false → blocks_out h 1 ≡ false
        → Safe (over h.settings) (set_program h.settings h.cursor now tag reading) f
    set_over reading bad out =
        over_safe h.settings (set_program h.settings h.cursor now tag reading) f (set_safe reading bad out)

    module _ (d : f (Dir tag) ≢ 0) where
      pub clear_safe : unsound_clear h f 0 tag ≡ false → blocks_out h (copies h f (tag_block h f tag) + 0) ≡ false
          → Safe (on_words h.settings) (clear_program h.settings h.cursor now tag) f
      clear_safe bad out = (clear_call_goes sound f now tag known d bad out).safe

      pub clear_over : unsound_clear h f 0 tag ≡ false → blocks_out h (copies h f (tag_block h f tag) + 0) ≡ false
          → Safe (over h.settings) (clear_program h.settings h.cursor now tag) f
      clear_over bad out = over_safe h.settings (clear_program h.settings h.cursor now tag) f (clear_safe bad out)

      pub update_safe : (reading : ℕ) → unsound_clear h f 1 tag ≡ false → blocks_out h (copies h f (tag_block h f tag) + 1) ≡ false
          → Safe (on_words h.settings) (update_program h.settings h.cursor now tag reading) f
      update_safe reading bad out = (update_goes sound f now tag known d reading bad out).safe

      pub update_over : (reading : ℕ) → unsound_clear h f 1 tag ≡ false → blocks_out h (copies h f (tag_block h f tag) + 1) ≡ false
          → Safe (over h.settings) (update_program h.settings h.cursor now tag reading) f
      update_over reading bad out =
          over_safe h.settings (update_program h.settings h.cursor now tag reading) f (update_safe reading bad out)

-- ---- words that are a store: what is safe on the memory that they hold may run on them
pub held_able : {A : Type 0} {s : Settings} {p : Prog A} {ws : List ℕ} → Held s ws → Safe (over s) p ((over s).read ws) → Able s p ws
held_able {s = s} {ws = ws} g h = record {
  within = g.within;
  memory = (over s).read ws;
  agree = record { good = g.good; same = record { at = λ a m. refl } };
  safe = h;
}
