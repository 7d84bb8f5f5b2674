-- `row_fit`: the invariant is the sum over the features passed. Assumes nothing.
use Rattle.doubles.proofs.Laws.Steps.{steps-none, steps-turn, steps_all}
use Rattle.columns.specs.Inner.RowFit.{row_fit}
use borrow.Author.Rules.{rules}
use Rattle.columns.proofs.row_fit.Goals as goal

pub loop-j-init : goal.loop-j-init
loop-j-init c = steps-none _ _

pub loop-j-preserved : goal.loop-j-preserved
loop-j-preserved c = steps-turn _ _ _ _ _ c.loop-j.invariant (rw c.weight.ensures)

pub returns : goal.returns
unfolding row_fit
returns c = steps_all _ _ _ _ _ c.loop-j.invariant (search rules) (search rules)
