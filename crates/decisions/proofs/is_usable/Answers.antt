-- `is_usable`: the invariant is that the columns passed are usable. Assumes nothing.
use mathlib.Core.Path.{sym, ◌∙◌}
use Rattle.doubles.proofs.Laws.Steps.{steps-none, steps_all, all_more, all_broken}
use Rattle.definition.specs.Preparation.{all_usable}
use Rattle.decisions.proofs.is_usable.Goals as goal

pub loop-j-init : goal.loop-j-init
loop-j-init c = steps-none _ _

pub returns-then-not-is_usable_at : goal.returns-then-not-is_usable_at
unfolding all_usable
returns-then-not-is_usable_at c =
    all_broken _ _ _ c.loop-j.invariant (sym c.is_usable_at.ensures ∙ c.if-not-is_usable_at.true) c.loop-j-test.true

pub loop-j-preserved : goal.loop-j-preserved
loop-j-preserved c = all_more _ _ c.loop-j.invariant (sym c.is_usable_at.ensures ∙ c.if-not-is_usable_at.false)

pub returns : goal.returns
unfolding all_usable
returns c = steps_all _ _ _ _ _ c.loop-j.invariant c.loop-j.auto.j-end c.loop-j-test.false
