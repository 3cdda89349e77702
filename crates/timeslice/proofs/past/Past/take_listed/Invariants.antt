-- The loop's invariant: the rows of the first blocks are taken.
use Rattle.std.proofs.Common.{Ok, take}
use Rattle.timeslice.specs.Reading.{reader_of}
use Rattle.timeslice.specs.Taken.{Takes}
use Rattle.timeslice.specs.Listed.{rows_in}
use Rattle.timeslice.proofs.past.Past.take_listed.Given as goal

abbrev pub invariant-loop-number : goal.invariant-loop-number
invariant-loop-number l =
    Takes l.self.opened.head.settings.tags l.initial.rows l.given
    (rows_in l.self.opened.head.settings.block l.self.second (reader_of l.self) (take l.number-index l.listed)) (Ok l.so_far) l.rows
