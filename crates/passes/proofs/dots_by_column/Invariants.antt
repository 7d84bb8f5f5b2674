-- `dots_by_column`: the invariant is the products done, and behind them what was there. Assumes nothing.
use mathlib.Core.Path.{◌≡◌}
use mathlib.Core.List.{◌++◌}
use lib.ListN.{drop}
use Rattle.doubles.specs.Steps.{tab}
use Rattle.designs.specs.Design.{of_matrix, dot}
use Rattle.passes.proofs.dots_by_column.Given as goal

abbrev pub invariant-loop-j : goal.invariant-loop-j
invariant-loop-j l = l.buf ≡ tab (λ k. dot (of_matrix l.x.matrix) k l.v) l.j ++ drop l.j l.initial.buf
