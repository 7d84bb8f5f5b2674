-- `csc_squares`: the invariant is the sums done, and behind them what was there. Assumes nothing.
use mathlib.Core.Path.{◌≡◌}
use mathlib.Core.List.{◌++◌}
use lib.ListN.{drop}
use Rattle.doubles.specs.Steps.{tab}
use Rattle.designs.specs.Design.{of_matrix, squares}
use Rattle.passes.proofs.csc_squares.Given as goal

abbrev pub invariant-loop-j : goal.invariant-loop-j
invariant-loop-j l = l.buf ≡ tab (squares (of_matrix l.x.matrix)) l.j ++ drop l.j l.initial.buf
