-- `dots_by_column`: the invariant is the products done, and behind them what was there. Assumes nothing.
use mathlib.Core.Path.{refl}
use Rattle.doubles.proofs.Laws.Steps.{tab-none, tab-more, tab-all}
use borrow.Author.Rules.{rules}
use Rattle.passes.proofs.dots_by_column.Goals as goal

pub loop-j-init : goal.loop-j-init
loop-j-init c = tab-none _ _

pub loop-j-preserved : goal.loop-j-preserved
loop-j-preserved c = tab-more _ _ _ _ c.loop-j.invariant _ (search rules) c.column_dot.ensures

pub returns : goal.returns
returns c = tab-all _ _ _ _ c.loop-j.invariant _ refl (search rules) (search rules)
