-- `parse::four_fields` meets its contract: the library cuts the line at its commas, and gives the fields if there are four.
use borrow.Author.Tests.{tests}
use borrow.Author.Rules.{rules}
use Rattle.console_text.specs.FieldsLaws.{four_collected}
use Rattle.console_text.proofs.parse.four_fields.Goals as goal

pub returns : goal.returns
returns c =
    four_collected _ c.split.result c.collect_tuple.result c.collect_tuple.ensures.some c.collect_tuple.ensures.none c.split.ensures.rest
    c.split.ensures.done c.split.ensures.closure (λ y b q k. search (rules, tests))
