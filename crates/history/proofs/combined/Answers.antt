-- `combined`: the invariant is the sum over the rows passed. Assumes nothing.
use Rattle.doubles.proofs.Laws.Steps.{steps-none, steps-turn}
use borrow.Author.Rules.{rules}
use Rattle.definition.specs.Extrapolation.{combined}
use Rattle.history.proofs.combined.Goals as goal

pub loop-k-init : goal.loop-k-init
loop-k-init c = steps-none _ _

pub loop-k-preserved : goal.loop-k-preserved
loop-k-preserved c = steps-turn _ _ _ _ _ c.loop-k.invariant (rw c.kept_weight.ensures)

pub returns : goal.returns
unfolding combined
returns c = search rules
