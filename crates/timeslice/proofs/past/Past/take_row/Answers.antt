-- `take_row` meets its contract: each answer is a law of one slot.
use mathlib.Core.Path.{refl}
use Rattle.timeslice.specs.TakenLaws.{not_yet, ended, no_room, one_row}
use Rattle.timeslice.proofs.past.Past.take_row.Goals as goal

pub returns-then-word-self : goal.returns-then-word-self
returns-then-word-self c = ended _ _ _ _ _ _ c.word.ensures c.if-word-self.true c.requires.fits

pub returns-then-self-word : goal.returns-then-self-word
returns-then-self-word c = not_yet _ _ _ _ _ _ c.word-2.ensures c.if-self-word.true c.requires.fits

pub returns-then-self-given : goal.returns-then-self-given
returns-then-self-given c =
    no_room _ _ _ _ _ _ c.word-2.ensures c.if-self-word.false c.word.ensures
    c.if-word-self.false c.if-self-given.true

pub returns : goal.returns
returns c =
    rw c.put_row.ensures.words (one_row _ _ _ _ _ _ c.word-2.ensures c.if-self-word.false c.word.ensures
    c.if-word-self.false c.if-self-given.false refl refl)
