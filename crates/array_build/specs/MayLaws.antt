-- What the parts of a change ask for, from the numbers that this build tests: a record that ends or is placed, a block that opens or leaves the row.
use Rattle.std.specs.Prelude.{ℕ, ◌<◌, List}
use Rattle.layout.specs.declared.settings.Settings.{Settings}
use Rattle.layout.specs.declared.head.Cursor.{Cursor}
use Rattle.layout.specs.declared.payload.Payload.{Payload}
use Rattle.layout.specs.declared.address.Address.TheVariants.{Field}
use Rattle.layout.specs.Fields.{up_word, right_word}
use Rattle.layout.specs.Address.{Numbered}
use Rattle.layout.specs.Program.{Prog}
use Rattle.layout.specs.ProgramLaws.{Safe}
use Rattle.layout.specs.OnWords.{on_words, over, Held}
use Rattle.layout.specs.OverLaws.{over_safe}
use Rattle.layout.specs.Able.{Able}
use Rattle.calls.specs.Placing.{open_block, unlink, end_record, put_record}
use Rattle.safety.specs.CallSafe.{held_able}
use Rattle.safety.specs.Parts.{end_goes, put_goes, unlink_goes, open_goes}

module _ {s : Settings} {ws : List ℕ} (g : Held s ws) where
  safe_able : {A : Type 0} (p : Prog A) → Safe (on_words s) p ((over s).read ws) → Able s p ws
  safe_able p h = held_able g (over_safe s p ((over s).read ws) h)

  pub may_end : (n k now : ℕ) → Numbered s n → k < s.block → Able s (end_record n k now) ws
  may_end n k now nn slot = safe_able (end_record n k now) (end_goes s g.within n k now ((over s).read ws) nn slot).safe

  pub may_put : (c : Cursor) (now tag : ℕ) (p : Payload) → Numbered s c.opened → c.fill < s.block → tag < s.tags → Able s (put_record s c now tag p) ws
  may_put c now tag p nn room known = safe_able (put_record s c now tag p) (put_goes s g.within c ((over s).read ws) now tag p nn room known).safe

  pub may_unlink : (c : Cursor) (x now : ℕ) → Numbered s x → (over s).read ws (Field x up_word) < x → Numbered s ((over s).read ws (Field x right_word))
      → Able s (unlink c x now) ws
  may_unlink c x now nx below nr = safe_able (unlink c x now) (unlink_goes s g.within c ((over s).read ws) x now nx below nr).safe

  pub may_open : (c : Cursor) (now : ℕ) → c.opened < s.blocks → Able s (open_block c now) ws
  may_open c now left = safe_able (open_block c now) (open_goes s g.within c ((over s).read ws) now left).safe
