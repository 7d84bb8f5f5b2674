-- `system_row`: the invariant is the entries written so far, and behind them zeros; then the right-hand side. Assumes nothing.
use mathlib.Core.Path.{◌≡◌}
use lib.ListN.{drop}
use Rattle.doubles.specs.Steps.{tab}
use Rattle.definition.specs.Extrapolation.{entry}
use mathlib.Core.List.{◌++◌}
use Rattle.history.proofs.system_row.Given as goal

abbrev pub invariant-loop-l : goal.invariant-loop-l
invariant-loop-l l = l.row ≡ tab (entry l.shape.p l.size l.kept l.k) l.l ++ drop l.l l.initial.row
