-- `copy`: the invariant is what is copied so far, and behind it what was there; a table of a list's own places is the list. Assumes nothing.
use mathlib.Core.Path.{◌≡◌}
use mathlib.Core.List.{◌++◌}
use lib.ListN.{drop}
use Rattle.doubles.specs.Num.{at}
use Rattle.doubles.specs.Steps.{tab}
use Rattle.extrapolation.proofs.copy.Given as goal

abbrev pub invariant-loop-i : goal.invariant-loop-i
invariant-loop-i l = l.to ≡ tab (at l.from) l.i ++ drop l.i l.initial.to
