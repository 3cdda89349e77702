-- `note_slot` meets its contract: each answer is a law of one slot.
use Rattle.std.proofs.Common.{arith}
use Rattle.window.specs.NotedLaws.{noted_named}
use Rattle.window.specs.SlotLaws.{slot_passed, slot_unknown, slot_noted}
use Rattle.window.proofs.span.Span.note_slot.Goals as goal

pub returns-then-not-stood_in : goal.returns-then-not-stood_in
returns-then-not-stood_in c =
    slot_passed c.args.self.now _ _ c.requires.noted_to c.requires.block_part.is c.stood_in.ensures c.if-not-stood_in.true

pub returns-then-self-tag : goal.returns-then-self-tag
returns-then-self-tag c =
    slot_unknown c.args.self.now _ _ c.requires.noted_to c.requires.block_part.is c.stood_in.ensures c.if-not-stood_in.false
    c.word-tag.ensures c.if-self-tag.true

pub later-requires : goal.later-requires
later-requires c = noted_named c.requires.noted_to _ (omega (arith, c.args.self.now.opened.readable.sound.within.tags))

pub returns : goal.returns
returns c =
    slot_noted c.args.self.now _ _ c.requires.noted_to c.requires.block_part.is c.stood_in.ensures c.if-not-stood_in.false
    c.word-tag.ensures c.requires.spot c.if-self-tag.false c.word-from.ensures c.place_of.ensures c.later.ensures
