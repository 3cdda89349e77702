-- `Block::slots_are_bad` meets its contract: a look at each standing slot, in order, until one is bad.
use mathlib.Core.Path.{ap, ◌∙◌}
use Prim.Native.Nat.{ℕ}
use Rattle.std.proofs.Common.{rules}
use Rattle.std.proofs.lemmas.Iterator.Search.{any_from_yields_List}
use Rattle.std.proofs.lemmas.Iterator.Consumers.{YieldsList-from_first}
use Rattle.layout.specs.declared.standing.Standing.{Standing}
use Rattle.layout.specs.Standing.{slots}
use Rattle.layout.specs.SlotsLeft.{slots_left}
use Rattle.calls.specs.Refusals.{any_of}
use Rattle.decisions.specs.Ready.{words_in}
use Rattle.decisions.specs.SoundLaws.{bad_slot, any_listed}
use Rattle.decisions.proofs.block.Block.slots_are_bad.Goals as goal

pub returns : goal.returns
returns c =
    let o = c.args.self.now.found.now in
    any_from_yields_List (bad_slot o.head (words_in o) c.args.self.now.number) _ _ _ c.any.ensures.ran
    (YieldsList-from_first (λ (x : ℕ). x) slots_left (slots c.standing.result) c.slots.ensures)
    (λ x b q k. search rules)
    ∙ any_listed (bad_slot o.head (words_in o) c.args.self.now.number) (slots c.standing.result)
    ∙ ap (λ (b : Standing). any_of (bad_slot o.head (words_in o) c.args.self.now.number) (slots b)) c.standing.ensures
