-- `is_regular`: the invariant is that no zero stands on the diagonal before i. Assumes nothing.
use borrow.Author.Rules.{rules}
use Rattle.doubles.proofs.Laws.Steps.{steps-none, steps_all, all_more, all_broken}
use Rattle.elimination.specs.Elimination.{regular}
use Rattle.elimination.proofs.inner.System.is_regular.Goals as goal

pub loop-i-init : goal.loop-i-init
loop-i-init c = steps-none _ _

pub returns-then-self-i : goal.returns-then-self-i
unfolding regular
returns-then-self-i c = all_broken _ _ _ c.loop-i.invariant (rw c.if-self-i.true) c.loop-i-test.true

pub loop-i-preserved : goal.loop-i-preserved
loop-i-preserved c = all_more _ _ c.loop-i.invariant (rw c.if-self-i.false)

pub returns : goal.returns
unfolding regular
returns c = steps_all _ _ _ _ _ c.loop-i.invariant (search rules) (search rules)
