-- `Settings::within` meets its contract: each refusal contradicts one of the limits, and what passes has them all.
use mathlib.Core.Path.{sym}
use native.Mathlib.Omega.{arith}
use borrow.Author.Rules.{rules}
use Rattle.layout.specs.SettingsLaws.{outside, within_limits}
use Rattle.layout.proofs.settings.Settings.within.Goals as goal

pub returns-then-self-lt-LEAST_BLOCK : goal.returns-then-self-lt-LEAST_BLOCK
returns-then-self-lt-LEAST_BLOCK c = sym (outside _ (λ w. omega arith))

pub returns-then-self-gt-MOST_BLOCK : goal.returns-then-self-gt-MOST_BLOCK
returns-then-self-gt-MOST_BLOCK c = sym (outside _ (λ w. omega arith))

pub returns-then-self-lt-LEAST_USEFUL : goal.returns-then-self-lt-LEAST_USEFUL
returns-then-self-lt-LEAST_USEFUL c = sym (outside _ (λ w. omega arith))

pub returns-then-self : goal.returns-then-self
returns-then-self c = sym (outside _ (λ w. omega arith))

pub returns-then-self-lt-LEAST_BLOCKS : goal.returns-then-self-lt-LEAST_BLOCKS
returns-then-self-lt-LEAST_BLOCKS c = sym (outside _ (λ w. omega arith))

pub returns-then-self-gt-MOST_BLOCKS : goal.returns-then-self-gt-MOST_BLOCKS
returns-then-self-gt-MOST_BLOCKS c = sym (outside _ (λ w. omega arith))

pub returns-then-self-lt-LEAST_TAGS : goal.returns-then-self-lt-LEAST_TAGS
returns-then-self-lt-LEAST_TAGS c = sym (outside _ (λ w. omega arith))

pub returns-then-self-gt-MOST_TAGS : goal.returns-then-self-gt-MOST_TAGS
returns-then-self-gt-MOST_TAGS c = sym (outside _ (λ w. omega arith))

pub returns : goal.returns
returns c = sym (within_limits _ (search rules))
