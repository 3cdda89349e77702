-- `HeadWords::bad_head` meets its contract: the six tests in order, each by its helper.
use mathlib.Core.Path.{refl, sym, ◌∙◌}
use borrow.Author.Tests.{eq-eqb, ne_eqb, lt-ltb, le-ltb}
use Rattle.layout.specs.HeadLaws.{bad-head}
use Rattle.layout.proofs.head.HeadWords.bad_head.Goals as goal

pub returns-then-self-ne-MARK : goal.returns-then-self-ne-MARK
returns-then-self-ne-MARK c = sym (bad-head _ refl (ne_eqb _ _ c.if-self-ne-MARK.true) refl refl refl refl refl)

pub returns-then-not-within : goal.returns-then-not-within
returns-then-not-within c = sym (bad-head _ c.head-h.ensures (eq-eqb _ _ c.if-self-ne-MARK.false) (sym c.within.ensures ∙ c.if-not-within.true) refl refl refl refl)

pub returns-then-h : goal.returns-then-h
returns-then-h c =
    let w = sym c.within.ensures ∙ c.if-not-within.false in
    sym (bad-head _ c.head-h.ensures (eq-eqb _ _ c.if-self-ne-MARK.false) w (lt-ltb _ _ c.if-h.true) refl refl refl)

pub returns-then-h-2 : goal.returns-then-h-2
returns-then-h-2 c =
    let w = sym c.within.ensures ∙ c.if-not-within.false in
    sym (bad-head _ c.head-h.ensures (eq-eqb _ _ c.if-self-ne-MARK.false) w (le-ltb _ _ c.if-h.false) (eq-eqb _ _ c.if-h-2.true) refl refl)

pub returns-then-not-spare_zero : goal.returns-then-not-spare_zero
returns-then-not-spare_zero c =
    let w = sym c.within.ensures ∙ c.if-not-within.false in
    let s = sym c.spare_zero.ensures ∙ c.if-not-spare_zero.true in
    sym (bad-head _ c.head-h.ensures (eq-eqb _ _ c.if-self-ne-MARK.false) w (le-ltb _ _ c.if-h.false) (ne_eqb _ _ c.if-h-2.false) s refl)

pub returns : goal.returns
returns c =
    let w = sym c.within.ensures ∙ c.if-not-within.false in
    let s = sym c.spare_zero.ensures ∙ c.if-not-spare_zero.false in
    sym (bad-head _ c.head-h.ensures (eq-eqb _ _ c.if-self-ne-MARK.false) w (le-ltb _ _ c.if-h.false) (ne_eqb _ _ c.if-h-2.false) s (sym c.fill_fits.ensures))
