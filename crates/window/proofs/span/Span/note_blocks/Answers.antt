-- `note_blocks` meets its contract: the blocks are noted one after another.
use Rattle.std.proofs.Common.{arith}
use Rattle.queries.specs.UnsoundLaws.{unsound_is}
use Rattle.window.specs.BlockLaws.{notes_noted, blocks_begin, blocks_noted, blocks_unknown}
use Rattle.window.proofs.span.Span.note_blocks.Goals as goal

pub loop-n-init : goal.loop-n-init
loop-n-init c = record { within = omega arith; before = blocks_begin c.args.self.now c.requires }

pub returns-in_err-note_block : goal.returns-in_err-note_block
returns-in_err-note_block c =
    rw (unsound_is c.from_residual.ensures.0)
    (blocks_unknown c.args.self.now c.loop-n-test.true c.note_block.ensures c.in_err-note_block.was)

pub returns : goal.returns
returns c = blocks_noted c.args.self.now (omega arith) c.loop-n.invariant.before

pub returns-in_ok-note_block : goal.returns-in_ok-note_block
returns-in_ok-note_block c = blocks_noted c.args.self.now (omega arith) (notes_noted c.note_block.ensures c.in_ok-note_block.was)
