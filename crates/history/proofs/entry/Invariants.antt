-- `entry`: the invariant is the sum over the places passed. Assumes nothing.
use mathlib.Core.Path.{◌≡◌}
use Rattle.doubles.specs.Num.{◌⊗◌}
use Rattle.doubles.specs.Steps.{sum}
use Rattle.definition.specs.Extrapolation.{U}
use Rattle.history.proofs.entry.Given as goal

abbrev pub invariant-loop-place : goal.invariant-loop-place
invariant-loop-place l = l.s ≡ sum (λ j. U l.shape.p l.kept l.k j ⊗ U l.shape.p l.kept l.l j) l.place
