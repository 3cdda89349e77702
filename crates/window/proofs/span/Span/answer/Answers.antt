-- `answer` meets its contract: the latest records are noted and their rows put, or refusal 12 fills the buffer with zeros.
use Rattle.window.specs.BlockLaws.{notes_noted}
use Rattle.window.specs.WindowedLaws.{all_named, rows_answered, rows_refused}
use Rattle.window.proofs.span.Span.answer.Goals as goal

pub put_rows-requires-clause-all_named : goal.put_rows-requires-clause-all_named
put_rows-requires-clause-all_named c = all_named (notes_noted c.note_blocks.ensures c.in-Ok.is)

pub returns-in-Ok : goal.returns-in-Ok
returns-in-Ok c = rows_answered c.args.self.now c.note_blocks.ensures c.in-Ok.is c.requires c.put_rows.ensures

pub returns-in-Err : goal.returns-in-Err
returns-in-Err c = rows_refused c.args.self.now c.note_blocks.ensures c.in-Err.is c.zero_all.ensures
