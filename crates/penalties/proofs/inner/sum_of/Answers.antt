-- `sum_of`: the invariant is the sum over the weights passed, for each function that the closure computes. Assumes nothing.
use Rattle.doubles.proofs.Laws.Steps.{steps-none, steps-turn, steps_all}
use borrow.Author.Rules.{rules}
use Rattle.penalties.proofs.inner.sum_of.Goals as goal

pub loop-x-init : goal.loop-x-init
loop-x-init g c = λ t h. steps-none _ _

pub loop-x-preserved : goal.loop-x-preserved
loop-x-preserved g c = λ t h. steps-turn _ _ _ _ _ (c.loop-x.invariant t h) (rw (h _ _ c.term-sum.ensures))

pub returns : goal.returns
returns g c = λ t h. steps_all _ _ _ _ _ (c.loop-x.invariant t h) (search rules) (search rules)
