-- What a program that may run on the words tells of the blocks, slots and tags that it meets.
use mathlib.Core.Path.{◌≡◌, refl, sym, ap, ◌∙◌}
use mathlib.Core.Logic.{◌≢◌}
use mathlib.Core.Bool.{Bool, true}
use mathlib.Core.List.{List}
use Prim.Native.Nat.{ℕ, ◌+◌, ◌<◌}
use lib.Dec.{ltb}
use lib.ListN.{length}
use borrow.Author.Tests.{ne_eqb}
use Rattle.layout.specs.declared.settings.Settings.{Settings}
use Rattle.layout.specs.declared.head.Cursor.{Cursor}
use Rattle.layout.specs.declared.address.Address.TheVariants.{Dir, Field, Bits, Slot}
use Rattle.layout.specs.declared.standing.Standing.{Standing}
use Rattle.layout.specs.declared.payload.Payload.{Payload}
use Rattle.layout.specs.Fields.{up_word, right_word, child_word, closed_word, tag_word, to_word}
use Rattle.layout.specs.Address.{Numbered}
use Rattle.layout.specs.Spot.{Spot}
use Rattle.layout.specs.Standing.{slots, block_bits}
use Rattle.layout.specs.Program.{Prog, bind, when, get!, run}
use Rattle.layout.specs.ProgramLaws.{refine}
use Rattle.layout.specs.Ran.{Ran}
use Rattle.layout.specs.OnWords.{over}
use Rattle.layout.specs.Able.{Able, able_first, able_next, able_taken, able_passed, able_get, able_set, able_wipe}
use Rattle.calls.specs.Placing.{open_block, unlink, end_record, standing, put_record}

-- ---- a program that may run does run, and what comes after it may run
ran_able : {A : Type 0} {s : Settings} {p : Prog A} {ws : List ℕ} → Able s p ws → Ran (over s) p ws (run (over s) p ws).0 (run (over s) p ws).1
ran_able {A} {s} {p} {ws} a = record { value = refl; words = refl; good = (refine (over s) p ws a.memory a.safe a.agree).1.good }

able_rest : {A B : Type 0} {s : Settings} {p : Prog A} {k : A → Prog B} {ws : List ℕ}
    → Able s (bind p k) ws → Able s (k (run (over s) p ws).0) (run (over s) p ws).1
able_rest a = able_next a (ran_able (able_first a))

-- ---- a block is judged
-- the standing slots of block n are read
pub asks_standing : {A : Type 0} {s : Settings} {n : ℕ} {k : List ℕ → Prog A} {ws : List ℕ} → Able s (bind (standing n) k) ws → Numbered s n
unfolding standing
asks_standing {n = n} x = (able_get (Bits n 0) (able_first (able_first x))).0

pub ran_standing : {A : Type 0} {s : Settings} (n : ℕ) {k : List ℕ → Prog A} {b : Standing} {ws : List ℕ} → Able s (bind (standing n) k) ws
    → b ≡ block_bits ((over s).read ws) n → Ran (over s) (standing n) ws (slots b) ws
unfolding standing
ran_standing n x e = record { value = ap slots (sym e); words = refl; good = x.agree.good }

-- with fewer than q of them the first of two ways is gone
pub able_few : {s : Settings} (n : ℕ) {p : List ℕ → Prog Cursor} {q : Prog Cursor} {b : Standing} {t : Bool} {ws : List ℕ}
    → Able s (bind (standing n) (λ l. when (ltb (length l) s.useful) (p l) q)) ws
    → b ≡ block_bits ((over s).read ws) n → t ≡ ltb (length (slots b)) s.useful → t ≡ true → Able s (p (slots b)) ws
able_few n a e few so = able_taken (sym few ∙ so) (able_next a (ran_standing n a e))

-- ---- slots
-- (Each answer that needs what follows names its lemma. Tried: as rules of Following the check finds none of them, since their numbers stand under a
-- program's name; and a helper over a place of `unlink` was no shorter, since each answer would have to name that place.)
pub end_spot : {s : Settings} {ws : List ℕ} (n k now : ℕ) → Able s (end_record n k now) ws → Spot s n k
unfolding end_record
end_spot n k now a = let v = able_set (Slot n k to_word) (able_first a) in record { within = a.within; block = v.0; slot = v.1 }

module _ {s : Settings} {ws : List ℕ} (c : Cursor) (now tag : ℕ) (p : Payload) (a : Able s (put_record s c now tag p) ws) where
  pub put_spot : Spot s c.opened c.fill
  unfolding put_record
  put_spot = let v = able_set (Slot c.opened c.fill tag_word) (able_first a) in record { within = a.within; block = v.0; slot = v.1 }

  pub put_tag : tag < s.tags
  unfolding put_record
  put_tag = able_set (Dir tag) (able_first (able_rest (able_rest (able_rest (able_rest (able_rest (able_rest a)))))))

  -- which words it writes does not depend on what the record tells
  pub any_payload : (q : Payload) → Able s (put_record s c now tag q) ws
  unfolding put_record over
  any_payload q = record { within = a.within; memory = a.memory; agree = a.agree; safe = a.safe }

-- ---- blocks
module _ {s : Settings} {ws : List ℕ} (c : Cursor) (now : ℕ) (a : Able s (open_block c now) ws) where
  -- block N + 1 is one of the store's
  pub next_block : Numbered s (c.opened + 1)
  unfolding open_block
  next_block = able_wipe (able_first (able_rest a))

-- the blocks that block x is unlinked from: its up, P (unless it is 0), and its right neighbour
pub record Links (s : Settings) (x up right : ℕ) : Type 0 where
  pub closes : Numbered s x
  pub above : up ≢ 0 → Numbered s up
  pub beside : Numbered s right

pub unlink_links : {s : Settings} {ws : List ℕ} (c : Cursor) (x now : ℕ) {up right : ℕ} → Able s (unlink c x now) ws
    → Ran (over s) (get! (Field x up_word)) ws up ws → Ran (over s) (get! (Field x right_word)) ws right ws → Links s x up right
unfolding unlink
unlink_links c x now {up} {right} a u r =
    let b = able_next (able_next a u) r in
    let d = able_rest b in
    record {
      closes = (able_set (Field x closed_word) (able_first b)).0;
      above = λ h. (able_get (Field up child_word) (able_first (able_passed (ne_eqb up 0 h) (able_rest d)))).0;
      beside = (able_set (Field right up_word) (able_first d)).0;
    }
