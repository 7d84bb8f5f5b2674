-- `sum_of`: the invariant is the sum over the weights passed, for each function that the closure computes. Assumes nothing.
use Rattle.std.proofs.Common.{◌≡◌}
use Rattle.std.specs.Prelude.{Float}
use Rattle.doubles.specs.Num.{at}
use Rattle.doubles.specs.Steps.{sum as total}
use Rattle.penalties.proofs.inner.sum_of.Given as goal

abbrev pub invariant-loop-x : goal.invariant-loop-x
invariant-loop-x g l =
    (t : Float → Float) → ((x r : Float) → goal.F-post g l.term x r → r ≡ t x) → l.sum ≡ total (λ k. t (at l.w k)) l.x-index
