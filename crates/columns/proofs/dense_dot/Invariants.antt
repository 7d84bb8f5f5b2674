-- `dense_dot`: the invariant is the sum over the samples passed. Assumes nothing.
use mathlib.Core.Path.{◌≡◌}
use Prim.Native.Nat.{◌+◌, ◌*◌}
use Rattle.doubles.specs.Num.{◌⊗◌, at}
use Rattle.doubles.specs.Steps.{sum as total}
use Rattle.columns.proofs.dense_dot.Given as goal

abbrev pub invariant-loop-i : goal.invariant-loop-i
invariant-loop-i l = l.s ≡ total (λ k. at l.values (k * l.shape.p + l.feature.0) ⊗ at l.v k) l.i
