-- `cd_epoch`: the invariant is that all visits so far went well and led to these weights and this fit. Assumes nothing.
use borrow.Author.Rules.{rules}
use Rattle.doubles.proofs.Laws.Steps.{steps-none, steps_all}
use Rattle.definition.specs.Epoch.{visits}
use Rattle.definition.specs.Inner.Problem.{as_task}
use Rattle.visits.proofs.Laws.Violations.{broken_off}
use Rattle.visits.proofs.Laws.Visits.{visits-more, visits_broken}
use Rattle.visits.proofs.cd_epoch.Goals as goal

pub loop-j-init : goal.loop-j-init
loop-j-init c = (search rules, search rules, steps-none _ _)

pub returns-in_err-visit : goal.returns-in_err-visit
returns-in_err-visit c =
    rw (broken_off _ c.from_residual.ensures.1)
    (visits_broken (as_task c.args.task.now) _ _ _ _ c.loop-j.invariant.2 c.in_err-visit.ensures (search rules))

pub loop-j-preserved : goal.loop-j-preserved
loop-j-preserved c =
    (search rules, search rules, visits-more (as_task c.args.task.now) _ _ _ _ c.loop-j.invariant.2 _ c.in_ok-visit.ensures)

pub returns : goal.returns
unfolding visits
returns c = steps_all _ _ _ _ _ c.loop-j.invariant.2 (search rules) (search rules)
