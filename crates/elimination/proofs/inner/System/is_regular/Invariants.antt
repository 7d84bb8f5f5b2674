-- `is_regular`: the invariant is that no zero stands on the diagonal before i. Assumes nothing.
use Rattle.std.proofs.Common.{◌≡◌, true, not}
use lib.Ieee.{eq}
use Rattle.doubles.specs.Num.{#0}
use Rattle.doubles.specs.Steps.{all}
use Rattle.elimination.specs.Elimination.{cell}
use Rattle.elimination.proofs.inner.System.is_regular.Given as goal

abbrev pub invariant-loop-i : goal.invariant-loop-i
invariant-loop-i l = true ≡ all (λ k. not (eq (cell l.self.rows k k) #0)) l.i
