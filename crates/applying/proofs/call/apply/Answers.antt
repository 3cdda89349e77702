-- `apply` meets its contract: each kind of call by its own.
use mathlib.Core.Path.{refl}
use Rattle.std.proofs.Common.{rules}
use Rattle.applying.specs.declared.call.Answer.TheVariants.{Done, Shown}
use Rattle.applying.specs.AppliedLaws.{mapped, changed_applied, looked_applied}
use Rattle.applying.proofs.call.apply.Goals as goal

pub returns-in-Start : goal.returns-in-Start
returns-in-Start c = changed_applied _ c.in-Start.is (λ l. refl) c.start.ensures (mapped Done _ _ (λ x y k. search rules) c.map.ensures.cases)

pub returns-in-Set : goal.returns-in-Set
returns-in-Set c = changed_applied _ c.in-Set.is (λ l. refl) c.set.ensures (mapped Done _ _ (λ x y k. search rules) c.map-in-Set.ensures.cases)

pub returns-in-Clear : goal.returns-in-Clear
returns-in-Clear c = changed_applied _ c.in-Clear.is (λ l. refl) c.clear.ensures (mapped Done _ _ (λ x y k. search rules) c.map-in-Clear.ensures.cases)

pub returns-in-Update : goal.returns-in-Update
returns-in-Update c = changed_applied _ c.in-Update.is (λ l. refl) c.update.ensures (mapped Done _ _ (λ x y k. search rules) c.map-in-Update.ensures.cases)

pub returns-in-Advance : goal.returns-in-Advance
returns-in-Advance c = changed_applied _ c.in-Advance.is (λ l. refl) c.advance.ensures (mapped Done _ _ (λ x y k. search rules) c.map-in-Advance.ensures.cases)

pub returns-in-LookBack : goal.returns-in-LookBack
returns-in-LookBack c =
    looked_applied c.in-LookBack.is c.look_back.ensures (mapped Shown _ _ (λ x y k. search rules) c.map-in-LookBack.ensures.cases)
