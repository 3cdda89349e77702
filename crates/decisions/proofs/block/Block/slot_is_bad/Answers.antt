-- `Block::slot_is_bad` meets its contract.
use borrow.Author.Tests.{le-leb, lt-leb}
use Rattle.decisions.specs.SoundLaws.{bad_slot}
use Rattle.decisions.proofs.block.Block.slot_is_bad.Goals as goal

pub returns-then-self-k : goal.returns-then-self-k
unfolding bad_slot
returns-then-self-k c = simp (le-leb _ _ c.if-self-k.true)

pub returns : goal.returns
unfolding bad_slot
returns c = simp (lt-leb _ _ c.if-self-k.false, c.read-tag.ensures)
