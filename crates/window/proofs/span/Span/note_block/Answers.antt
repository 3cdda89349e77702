-- `note_block` meets its contract: its slots are noted one after another, where it is read.
use Rattle.std.proofs.Common.{arith}
use Rattle.queries.specs.UnsoundLaws.{unsound_is}
use Rattle.window.specs.BlockLaws.{block_begin, block_passed, block_noted, block_unknown}
use Rattle.window.proofs.span.Span.note_block.Goals as goal

pub returns-then-not-is_read : goal.returns-then-not-is_read
returns-then-not-is_read c =
    block_passed c.args.self.now _ c.requires.numbered.low c.block-block.ensures.read
    c.is_read.ensures c.if-not-is_read.true c.requires.noted_blocks

pub loop-k-init : goal.loop-k-init
loop-k-init c = block_begin c.args.self.now _ c.requires.noted_blocks

pub returns-in_err-note_slot : goal.returns-in_err-note_slot
returns-in_err-note_slot c =
    rw (unsound_is c.from_residual.ensures.0)
    (block_unknown c.args.self.now _ c.requires.numbered.low c.block-block.ensures.read
    c.is_read.ensures c.if-not-is_read.false c.loop-k-test.true c.note_slot.ensures c.in_err-note_slot.was)

pub returns : goal.returns
returns c =
    block_noted c.args.self.now _ c.requires.numbered.low c.block-block.ensures.read
    c.is_read.ensures c.if-not-is_read.false (omega arith) c.loop-k.invariant
