-- `largest_abs`: the invariant is the largest of those passed. Assumes nothing.
use mathlib.Core.Path.{◌∙◌}
use Rattle.doubles.proofs.Laws.Steps.{steps-none, steps-turn}
use Rattle.passes.proofs.largest_abs.Goals as goal

pub loop-x-init : goal.loop-x-init
loop-x-init c = steps-none _ _

pub loop-x-preserved : goal.loop-x-preserved
loop-x-preserved c = steps-turn _ _ _ _ _ c.loop-x.invariant (c.larger-v.ensures ∙ rw c.abs.ensures)
