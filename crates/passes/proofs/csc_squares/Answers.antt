-- `csc_squares`: the invariant is the sums done, and behind them what was there. Assumes nothing.
use mathlib.Core.Path.{refl}
use Rattle.doubles.proofs.Laws.Steps.{tab-none, tab-more, tab-all}
use borrow.Author.Rules.{rules}
use Rattle.passes.proofs.csc_squares.Goals as goal

pub loop-j-init : goal.loop-j-init
loop-j-init c = tab-none _ _

pub loop-j-preserved : goal.loop-j-preserved
loop-j-preserved c = tab-more _ _ _ _ c.loop-j.invariant _ (search rules) c.csc_square.ensures

pub returns : goal.returns
returns c = tab-all _ _ _ _ c.loop-j.invariant _ refl (search rules) (search rules)
