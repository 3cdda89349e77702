use Rattle.std.proofs.Common.{rules}
use Rattle.model.proofs.NumberLaws.{answer_number_most}
use Rattle.model.proofs.refusal.number.Goals as goal

pub returns-clause-most : goal.returns-clause-most
returns-clause-most c = search (rules, answer_number_most c.args.answer)
