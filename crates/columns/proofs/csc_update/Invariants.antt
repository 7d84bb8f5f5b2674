-- `csc_update`: the invariant is the definition's loop over the stored entries passed; that each row is below n comes from soundness.
-- Assumes nothing.
use mathlib.Core.Path.{◌≡◌}
use lib.ListN.{get_or, set}
use Rattle.doubles.specs.Num.{◌⊕◌, ◌⊗◌, at}
use Rattle.doubles.specs.Steps.{upward}
use Rattle.columns.proofs.csc_update.Given as goal

abbrev pub invariant-loop-e : goal.invariant-loop-e
invariant-loop-e l =
    l.fit ≡ upward (λ e f. set f (get_or l.rows e 0) (at f (get_or l.rows e 0) ⊕ l.d ⊗ at l.values e)) l.start l.e l.initial.fit
