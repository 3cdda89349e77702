-- What is left, read on from the value so far, says the number.
use Rattle.console_text.specs.DecimalLaws.{ReadTo}
use Rattle.console_text.proofs.decimal.decimal_up_to.Given as goal

abbrev pub invariant-loop-byte : goal.invariant-loop-byte
invariant-loop-byte l = ReadTo l.most l.field l.value l.byte-index
