-- `squared_error`: the invariant is the sum over the samples passed. Assumes nothing.
use mathlib.Core.Path.{◌≡◌}
use Rattle.doubles.specs.Num.{◌⊖◌, ◌⊗◌, at}
use Rattle.doubles.specs.Steps.{sum as total}
use Rattle.quadratic.proofs.squared_error.Given as goal

abbrev pub invariant-loop-i : goal.invariant-loop-i
invariant-loop-i l = l.s ≡ total (λ k. (at l.y k ⊖ at l.fit k) ⊗ (at l.y k ⊖ at l.fit k)) l.i
