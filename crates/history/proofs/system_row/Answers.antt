-- `system_row`: the invariant is the entries written so far, and behind them zeros; then the right-hand side. Assumes nothing.
use native.Mathlib.Omega.{arith}
use Rattle.doubles.proofs.Laws.Steps.{tab-none, tab-more}
use Rattle.definition.specs.Extrapolation.{system_row}
use Rattle.history.proofs.Laws.System.{row_done}
use Rattle.history.proofs.system_row.Goals as goal

pub loop-l-init : goal.loop-l-init
loop-l-init c = tab-none _ _

pub loop-l-preserved : goal.loop-l-preserved
loop-l-preserved c = tab-more _ _ _ _ c.loop-l.invariant _ (omega arith) c.paired.ensures

pub returns : goal.returns
unfolding system_row
returns c = row_done _ _ _ _ c.requires.1 c.loop-l.auto.l-end c.loop-l-test.false c.loop-l.invariant
