-- `reduce_row`: the invariant is the definition's loop up to column k. Assumes nothing.
use borrow.Author.Rules.{rules}
use Rattle.doubles.proofs.Laws.Steps.{upward-none, upward-more, upward-all}
use Rattle.elimination.specs.Elimination.{reduced}
use Rattle.elimination.proofs.inner.reduce_row.Goals as goal

pub loop-k-init : goal.loop-k-init
loop-k-init c = (search rules, upward-none _ _ _)

pub loop-k-preserved : goal.loop-k-preserved
loop-k-preserved c = (search rules, upward-more _ _ _ _ _ c.loop-k.invariant.0 c.loop-k.invariant.1)

pub returns : goal.returns
unfolding reduced
returns c = upward-all _ _ _ _ _ _ c.loop-k.invariant.1 (search rules) (search rules)
