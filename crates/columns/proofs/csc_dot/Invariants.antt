-- `csc_dot`: the invariant is the sum over the stored entries passed; that each row is below n comes from soundness. Assumes nothing.
use mathlib.Core.Path.{◌≡◌}
use lib.ListN.{get_or}
use Rattle.doubles.specs.Num.{◌⊕◌, ◌⊗◌, #0, at}
use Rattle.doubles.specs.Steps.{upward}
use Rattle.columns.proofs.csc_dot.Given as goal

abbrev pub invariant-loop-e : goal.invariant-loop-e
invariant-loop-e l = l.s ≡ upward (λ e s. s ⊕ at l.values e ⊗ at l.v (get_or l.rows e 0)) l.start l.e #0
