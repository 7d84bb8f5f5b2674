-- `total`: the invariant is the sum over the places passed. Assumes nothing.
use mathlib.Core.Path.{◌≡◌}
use Rattle.doubles.specs.Num.{at}
use Rattle.doubles.specs.Steps.{sum}
use Rattle.extrapolation.proofs.total.Given as goal

abbrev pub invariant-loop-k : goal.invariant-loop-k
invariant-loop-k l = l.s ≡ sum (at l.z) l.k
