-- `finish`: each product by itself becomes its gradient, upward. Assumes nothing.
use mathlib.Core.Path.{◌≡◌}
use Prim.Native.Nat.{◌+◌}
use mathlib.Core.List.{◌++◌}
use lib.ListN.{drop}
use Rattle.doubles.specs.Num.{at}
use Rattle.doubles.specs.Steps.{tab}
use Rattle.designs.specs.Design.{gradient_from}
use Rattle.passes.proofs.finish.Given as goal

abbrev pub invariant-loop-j : goal.invariant-loop-j
invariant-loop-j l =
    l.buf ≡ tab (λ k. gradient_from (at l.initial.buf k) (at l.prepared (l.from + k)) l.n) l.j ++ drop l.j l.initial.buf
