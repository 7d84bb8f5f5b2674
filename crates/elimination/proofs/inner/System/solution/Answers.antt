-- `solution`: the invariant is the definition's loop up to row i. Assumes nothing.
use borrow.Author.Rules.{rules}
use Rattle.doubles.proofs.Laws.Steps.{steps-none, steps-more, steps_all}
use Rattle.elimination.specs.Elimination.{read_off}
use Rattle.elimination.proofs.inner.System.solution.Goals as goal

pub loop-i-init : goal.loop-i-init
loop-i-init c = steps-none _ _

pub loop-i-preserved : goal.loop-i-preserved
loop-i-preserved c = steps-more _ _ _ _ c.loop-i.invariant

pub returns : goal.returns
unfolding read_off
returns c = steps_all _ _ _ _ _ c.loop-i.invariant (search rules) (search rules)
