-- `csc_update_all`: the invariant is the definition's loop over the features passed. Assumes nothing.
use mathlib.Core.Path.{◌≡◌}
use lib.ListN.{get_or}
use Rattle.doubles.specs.Num.{at}
use Rattle.doubles.specs.Steps.{steps}
use Rattle.designs.specs.Design.{of_matrix, moved}
use Rattle.columns.proofs.csc_update_all.Given as goal

abbrev pub invariant-loop-j : goal.invariant-loop-j
invariant-loop-j l =
    l.fit ≡ steps (λ i. moved (of_matrix l.x.matrix) (get_or l.ws i 0) (at l.w (get_or l.ws i 0))) l.j-index l.initial.fit
