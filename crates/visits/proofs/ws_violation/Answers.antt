-- `ws_violation`: the invariant is that all features passed had finite numbers, and their largest violation. Assumes nothing.
use borrow.Author.Rules.{rules}
use Rattle.definition.specs.Epoch.{violation_of, gradient_of, known, known_in, worst_in}
use Rattle.visits.specs.Inner.Reading.{measured_in}
use Rattle.visits.proofs.Laws.Violations.{broken_off, passed_none, passed_more, passed_bad, passed_all}
use Rattle.visits.proofs.ws_violation.Goals as goal

pub loop-j-init : goal.loop-j-init
loop-j-init c = passed_none

pub returns-in_err-v : goal.returns-in_err-v
unfolding measured_in known_in known worst_in violation_of gradient_of
returns-in_err-v c =
    rw (broken_off _ c.from_residual.ensures.1)
    (passed_bad c.loop-j.invariant _ _ (rw (c.weight.ensures, c.gradient_j-g.ensures) at c.in_err-v.ensures) (search rules))

pub loop-j-preserved : goal.loop-j-preserved
unfolding gradient_of
loop-j-preserved c =
    passed_more c.loop-j.invariant (rw (c.weight.ensures, c.gradient_j-g.ensures) at c.in_ok-v.ensures) c.larger-largest.ensures

pub returns : goal.returns
unfolding measured_in known_in known worst_in violation_of
returns c = passed_all c.loop-j.invariant (λ l. l) _ (search rules) (search rules)
