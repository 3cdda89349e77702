-- `decimal::put_number` meets its contract: a word has at most 10 digits.
use Rattle.std.proofs.Common.{ap, ℕ, length, arith, length-append}
use Rattle.console_text.specs.DigitsLaws.{digits_are, decimal_word}
use borrow.Author.Rules.{rules}
use Rattle.console_text.proofs.decimal.put_number.Goals as goal

pub returns-clause-word : goal.returns-clause-word
returns-clause-word c w =
    let e = digits_are (search rules) c.decimal-count.ensures.len c.decimal-count.ensures.digits in
    omega (arith, ap length c.put_text.ensures, length-append {A = ℕ}, ap length e, decimal_word c.args.n w)
