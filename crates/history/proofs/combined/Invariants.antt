-- `combined`: the invariant is the sum over the rows passed. Assumes nothing.
use mathlib.Core.Path.{◌≡◌}
use Prim.Native.Nat.{◌+◌, ◌*◌}
use Rattle.doubles.specs.Num.{◌⊗◌, at}
use Rattle.doubles.specs.Steps.{sum}
use Rattle.history.proofs.combined.Given as goal

abbrev pub invariant-loop-k : goal.invariant-loop-k
invariant-loop-k l = l.s ≡ sum (λ j. at l.c j ⊗ at l.kept (j * l.shape.p + l.i)) l.k
