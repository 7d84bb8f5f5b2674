-- `dense_dot`: the invariant is the sum over the samples passed. Assumes nothing.
use Rattle.doubles.proofs.Laws.Steps.{steps-none, steps-more, steps_all}
use Rattle.designs.specs.Design.{dot, dense}
use Rattle.columns.proofs.dense_dot.Goals as goal

pub loop-i-init : goal.loop-i-init
loop-i-init c = steps-none _ _

pub loop-i-preserved : goal.loop-i-preserved
loop-i-preserved c = steps-more _ _ _ _ c.loop-i.invariant

pub returns : goal.returns
unfolding dot dense
returns c = steps_all _ _ _ _ _ c.loop-i.invariant c.loop-i.auto.i-end c.loop-i-test.false
