-- `reduce_row`: the invariant is the definition's loop up to column k. Assumes nothing.
use Rattle.std.proofs.Common.{◌≡◌, ◌≤◌}
use Rattle.doubles.specs.Num.{◌⊖◌, ◌⊗◌, at}
use Rattle.doubles.specs.Steps.{upward}
use lib.ListN.{set}
use Rattle.elimination.proofs.inner.reduce_row.Given as goal

abbrev pub invariant-loop-k : goal.invariant-loop-k
invariant-loop-k l =
    (l.from ≤ l.k) × (l.row ≡ upward (λ i x. set x i (at x i ⊖ l.factor ⊗ at l.source i)) l.from l.k l.initial.row)
