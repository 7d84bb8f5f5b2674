-- `solution`: the invariant is the definition's loop up to row i. Assumes nothing.
use Rattle.std.proofs.Common.{◌≡◌}
use lib.ListN.{set}
use Rattle.doubles.specs.Num.{◌⊘◌}
use Rattle.doubles.specs.Steps.{steps}
use Rattle.elimination.specs.Elimination.{cell}
use Rattle.elimination.proofs.inner.System.solution.Given as goal

abbrev pub invariant-loop-i : goal.invariant-loop-i
invariant-loop-i l = l.z ≡ steps (λ k x. set x k (cell l.self.rows k l.self.size ⊘ cell l.self.rows k k)) l.i l.initial.z
