-- `coefficients`: the invariant is the quotients written so far, and behind them zeros. Assumes nothing.
use mathlib.Core.Path.{◌≡◌}
use lib.ListN.{drop}
use Rattle.doubles.specs.Steps.{tab}
use mathlib.Core.List.{◌++◌}
use Rattle.doubles.specs.Num.{◌⊘◌, at}
use Rattle.extrapolation.proofs.coefficients.Given as goal

abbrev pub invariant-loop-k : goal.invariant-loop-k
invariant-loop-k l = l.c ≡ tab (λ i. at l.z i ⊘ l.s) l.k ++ drop l.k l.initial.c
