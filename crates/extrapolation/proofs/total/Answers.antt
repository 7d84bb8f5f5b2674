-- `total`: the invariant is the sum over the places passed. Assumes nothing.
use Rattle.doubles.proofs.Laws.Steps.{steps-none, steps-more}
use Rattle.extrapolation.proofs.total.Goals as goal

pub loop-k-init : goal.loop-k-init
loop-k-init c = steps-none _ _

pub loop-k-preserved : goal.loop-k-preserved
loop-k-preserved c = steps-more _ _ _ _ c.loop-k.invariant
