-- `HeadWords::spare_zero` meets its contract: all six words, one after another.
use Rattle.std.specs.Prelude.{ℕ, eqb}
use Rattle.std.proofs.Common.{rules, ◌∙◌}
use Rattle.std.proofs.lemmas.Iterator.{YieldsList-from_slice}
use Rattle.std.proofs.lemmas.Iterator.Search.{all_from_yields_List}
use Rattle.layout.specs.HeadLaws.{spare_all}
use Rattle.layout.proofs.head.HeadWords.spare_zero.Goals as goal

pub returns : goal.returns
returns c =
    all_from_yields_List (λ (w : ℕ). eqb w 0) _ _ _ c.all.ensures.ran (YieldsList-from_slice _ c.iter.ensures.rest) (λ x b q k. search rules)
    ∙ spare_all c.args.self.now.words.now
