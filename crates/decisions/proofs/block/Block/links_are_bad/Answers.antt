-- `Block::links_are_bad` meets its contract.
use mathlib.Core.Path.{refl, sym, ◌∙◌}
use borrow.Author.Tests.{le-leb, lt-leb, lt-ltb, le-ltb, eq-eqb, ne_eqb}
use Rattle.decisions.specs.SoundLaws.{bad-links, not_leb}
use Rattle.decisions.proofs.block.Block.links_are_bad.Goals as goal

pub returns-then-n-read : goal.returns-then-n-read
returns-then-n-read c = sym (bad-links _ _ _ (sym c.read.ensures) refl (le-leb _ _ c.if-n-read.true) refl refl refl)

pub returns-then-n-self : goal.returns-then-n-self
returns-then-n-self c =
    sym (bad-links _ _ _ (sym c.read.ensures) refl (lt-leb _ _ c.if-n-read.false)
    (eq-eqb _ _ c.if-n-self.true) refl refl)

pub returns-then-right-n : goal.returns-then-right-n
returns-then-right-n c =
    sym (bad-links _ _ _ (sym c.read.ensures) (sym c.read-right.ensures)
    (lt-leb _ _ c.if-n-read.false) (ne_eqb _ _ c.if-n-self.false) (le-ltb _ _ c.if-right-n.true) refl)

pub returns : goal.returns
returns c = not_leb c.read-right.result c.args.self.now.found.now.head.cursor.opened
    ∙ sym (bad-links _ _ _ (sym c.read.ensures) (sym c.read-right.ensures)
    (lt-leb _ _ c.if-n-read.false) (ne_eqb _ _ c.if-n-self.false)
    (lt-ltb _ _ c.if-right-n.false) refl)
