use Rattle.std.proofs.Common.{arith, drop}
use Rattle.std.proofs.lemmas.List.{take_all, length-drop}
use Rattle.model.specs.Answers.{counts_of}
use Rattle.model.proofs.answers.Answers.refused.Goals as goal

pub returns : goal.returns
returns c = take_all 14 (drop 1 (counts_of c.args.self.now)) (omega (arith, length-drop 1 (counts_of c.args.self.now), c.type_inv.self))
