-- `system`: the invariant is the rows written so far, and behind them rows of zeros. Assumes nothing.
use mathlib.Core.Path.{◌≡◌}
use lib.ListN.{drop}
use Rattle.doubles.specs.Steps.{tab}
use Rattle.definition.specs.Extrapolation.{system_row}
use mathlib.Core.List.{◌++◌}
use Rattle.history.proofs.system.Given as goal

abbrev pub invariant-loop-k : goal.invariant-loop-k
invariant-loop-k l = l.m ≡ tab (system_row l.shape.depth l.shape.p l.size l.kept) l.k ++ drop l.k l.initial.m
