-- `add_squares`: each running sum gains its square of the row, upward. Assumes nothing.
use mathlib.Core.Path.{◌≡◌}
use Prim.Native.Nat.{◌+◌}
use mathlib.Core.List.{◌++◌}
use lib.ListN.{drop}
use Rattle.doubles.specs.Num.{◌⊕◌, ◌⊗◌, at}
use Rattle.doubles.specs.Steps.{tab}
use Rattle.passes.proofs.add_squares.Given as goal

abbrev pub invariant-loop-j : goal.invariant-loop-j
invariant-loop-j l =
    l.buf ≡ tab (λ k. at l.initial.buf k ⊕ at l.values (l.base + k) ⊗ at l.values (l.base + k)) l.j ++ drop l.j l.initial.buf
