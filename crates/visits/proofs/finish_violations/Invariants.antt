-- `finish_violations`: the invariant is that all features passed had finite numbers, their largest violation, and the violations in the gradients'
-- places. Assumes nothing.
use Rattle.std.proofs.Common.{◌≡◌, ◌++◌}
use lib.ListN.{drop}
use Rattle.doubles.specs.Num.{at}
use Rattle.doubles.specs.Steps.{tab}
use Rattle.visits.specs.Inner.Reading.{violation_there}
use Rattle.visits.proofs.Laws.Violations.{Passed}
use Rattle.visits.proofs.finish_violations.Given as goal

abbrev pub invariant-loop-j : goal.invariant-loop-j
invariant-loop-j l = (l.gradients ≡ tab (violation_there l.penalty l.w l.initial.gradients) l.j ++ drop l.j l.initial.gradients)
    × Passed l.penalty (at l.w) (at l.initial.gradients) l.j l.largest
