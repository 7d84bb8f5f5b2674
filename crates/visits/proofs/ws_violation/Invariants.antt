-- `ws_violation`: the invariant is that all features passed had finite numbers, and their largest violation. Assumes nothing.
use lib.ListN.{get_or}
use Rattle.doubles.specs.Num.{at}
use Rattle.definition.specs.Epoch.{gradient_of}
use Rattle.definition.specs.Inner.Problem.{as_task}
use Rattle.visits.proofs.Laws.Violations.{Passed}
use Rattle.visits.proofs.ws_violation.Given as goal

abbrev pub invariant-loop-j : goal.invariant-loop-j
invariant-loop-j l =
    Passed l.task.penalty (λ k. at l.w (get_or l.ws k 0)) (λ k. gradient_of (as_task l.task) l.fit (get_or l.ws k 0)) l.j-index l.largest
