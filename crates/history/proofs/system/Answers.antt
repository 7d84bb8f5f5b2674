-- `system`: the invariant is the rows written so far, and behind them rows of zeros. Assumes nothing.
use native.Mathlib.Omega.{arith}
use Rattle.doubles.specs.Steps.{steps}
use Rattle.doubles.proofs.Laws.Steps.{tab-none, tab-more}
use Rattle.definition.specs.Extrapolation.{system}
use Rattle.history.proofs.Laws.System.{filled, rows_above}
use borrow.Author.Rules.{rules}
use Rattle.history.proofs.system.Goals as goal

pub loop-k-init : goal.loop-k-init
loop-k-init c = tab-none _ _

pub system_row-requires : goal.system_row-requires
system_row-requires c = let pre = c.requires in (search rules, pre.0, pre.1, pre.2, rows_above _ _ _ _ _ _ c.loop-k.invariant)

pub loop-k-preserved : goal.loop-k-preserved
loop-k-preserved c = tab-more _ _ _ _ c.loop-k.invariant _ (omega arith) c.system_row.ensures

pub returns : goal.returns
unfolding system steps
returns c = filled _ _ _ _ _ _ c.requires.0 c.loop-k.auto.k-end c.loop-k-test.false c.loop-k.invariant
