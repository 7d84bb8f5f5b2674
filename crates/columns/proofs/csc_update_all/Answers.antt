-- `csc_update_all`: the invariant is the definition's loop over the features passed. Assumes nothing.
use mathlib.Core.Path.{◌∙◌}
use Rattle.doubles.proofs.Laws.Steps.{steps-none, steps-turn, steps_all}
use Rattle.designs.specs.Design.{moved_all}
use borrow.Author.Rules.{rules}
use Rattle.columns.proofs.csc_update_all.Goals as goal

pub loop-j-init : goal.loop-j-init
loop-j-init c = steps-none _ _

pub loop-j-preserved : goal.loop-j-preserved
loop-j-preserved c = steps-turn _ _ _ _ _ c.loop-j.invariant (c.csc_update.ensures ∙ rw c.weight.ensures)

pub returns : goal.returns
unfolding moved_all
returns c = steps_all _ _ _ _ _ c.loop-j.invariant (search rules) (search rules)
