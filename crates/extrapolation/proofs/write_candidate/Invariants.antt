-- `write_candidate`: the invariant is the definition's loop over the working set's places passed. Assumes nothing.
use mathlib.Core.Path.{◌≡◌}
use lib.ListN.{get_or, set}
use Rattle.doubles.specs.Steps.{steps}
use Rattle.definition.specs.Extrapolation.{combined}
use Rattle.extrapolation.proofs.write_candidate.Given as goal

abbrev pub invariant-loop-i : goal.invariant-loop-i
invariant-loop-i l = l.w ≡ steps (λ k v. set v (get_or l.ws k 0) (combined l.shape.depth l.shape.p l.kept l.c k)) l.i l.initial.w
