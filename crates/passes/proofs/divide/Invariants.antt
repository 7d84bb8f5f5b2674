-- `divide`: each place by itself, upward. Assumes nothing.
use mathlib.Core.Path.{◌≡◌}
use mathlib.Core.List.{◌++◌}
use lib.ListN.{drop}
use Rattle.doubles.specs.Num.{◌⊘◌, count, at}
use Rattle.doubles.specs.Steps.{tab}
use Rattle.passes.proofs.divide.Given as goal

abbrev pub invariant-loop-x : goal.invariant-loop-x
invariant-loop-x l = l.x-items ≡ tab (λ k. at l.initial.x-items k ⊘ count l.n) l.x-index ++ drop l.x-index l.initial.x-items
