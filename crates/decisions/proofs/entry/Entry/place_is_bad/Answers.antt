-- `Entry::place_is_bad` meets its contract: the place is above the records placed, or its record or standing bits are others.
use mathlib.Core.Path.{refl, sym}
use native.Mathlib.Omega.{arith}
use borrow.Author.Tests.{lt-ltb, le-ltb, eq-eqb, ne_eqb}
use Rattle.layout.specs.Spot.{Lies, place_lies}
use Rattle.decisions.specs.EffectLaws.{numbered_at, slot_at}
use Rattle.decisions.specs.SoundLaws.{bad-place}
use Rattle.decisions.proofs.entry.Entry.place_is_bad.Goals.{Else-placed-self}
use Rattle.decisions.proofs.entry.Entry.place_is_bad.Goals as goal

-- A place that is not above the records placed lies in the store.
lies : (c : Else-placed-self) → Lies c.args.self.now.found.now.head c.args.self.now.place
lies c = let e = c.args.self.now in place_lies _ _ e.found.now.readable.sound e.place_of.some (omega arith)

pub returns-then-placed-self : goal.returns-then-placed-self
returns-then-placed-self c =
    sym (bad-place _ _ _ c.args.self.now.place_of.is refl refl c.placed.ensures refl refl (lt-ltb _ _ c.if-placed-self.true) refl refl)

pub read-requires : goal.read-requires
read-requires c =
    let i = lies (goal.at.read-requires c).Else-placed-self in
    (numbered_at i c.block-n.ensures, slot_at i c.slot-k.ensures, omega arith)

pub returns-then-read-self : goal.returns-then-read-self
returns-then-read-self c =
    sym (bad-place _ _ _ c.args.self.now.place_of.is c.block-n.ensures c.slot-k.ensures c.placed.ensures (sym c.read.ensures) refl
    (le-ltb _ _ c.if-placed-self.false) (ne_eqb _ _ c.if-read-self.true) refl)

pub standing-requires : goal.standing-requires
standing-requires c = numbered_at (lies (goal.at.standing-requires c).Else-placed-self) c.block-n.ensures

pub returns : goal.returns
returns c =
    sym (bad-place _ _ _ c.args.self.now.place_of.is c.block-n.ensures c.slot-k.ensures c.placed.ensures (sym c.read.ensures)
    c.standing.ensures (le-ltb _ _ c.if-placed-self.false) (eq-eqb _ _ c.if-read-self.false) (sym c.has.ensures))
