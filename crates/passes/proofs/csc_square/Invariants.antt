-- `csc_square`: the invariant is the sum over the stored entries passed. Assumes nothing.
use mathlib.Core.Path.{◌≡◌}
use Rattle.doubles.specs.Num.{◌⊗◌, at}
use Rattle.doubles.specs.Steps.{sum as total}
use Rattle.passes.proofs.csc_square.Given as goal

abbrev pub invariant-loop-value : goal.invariant-loop-value
invariant-loop-value l = l.s ≡ total (λ k. at l.value-items k ⊗ at l.value-items k) l.value-index
