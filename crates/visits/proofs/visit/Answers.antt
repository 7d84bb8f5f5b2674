-- `visit`: one branch after the other. Assumes nothing.
use Rattle.definition.specs.Epoch.{gradient_of}
use Rattle.definition.specs.Inner.Problem.{as_task}
use Rattle.visits.proofs.Laws.Visits.{visit_skips, bad-gradient, bad-weight, visit_moves}
use Rattle.visits.proofs.visit.Goals as goal

pub returns-then-lipschitz : goal.returns-then-lipschitz
returns-then-lipschitz c = visit_skips (as_task c.args.task.now) _ _ _ c.constant-lipschitz.ensures c.if-lipschitz.true

pub returns-then-not-is_finite : goal.returns-then-not-is_finite
unfolding gradient_of
returns-then-not-is_finite c =
    bad-gradient (as_task c.args.task.now) _ _ _ c.constant-lipschitz.ensures c.if-lipschitz.false _ c.gradient_j-gradient.ensures _
    c.is_finite.ensures c.if-not-is_finite.true

pub returns-then-not-is_finite-2 : goal.returns-then-not-is_finite-2
unfolding gradient_of
returns-then-not-is_finite-2 c =
    bad-weight (as_task c.args.task.now) _ _ _ c.constant-lipschitz.ensures c.if-lipschitz.false _ c.gradient_j-gradient.ensures _
    c.is_finite.ensures c.if-not-is_finite.false _
    c.weight-old.ensures _ c.prox-new.ensures _ c.is_finite-2.ensures c.if-not-is_finite-2.true

pub returns : goal.returns
unfolding gradient_of
returns c =
    visit_moves (as_task c.args.task.now) _ _ _ c.constant-lipschitz.ensures c.if-lipschitz.false _ c.gradient_j-gradient.ensures _
    c.is_finite.ensures c.if-not-is_finite.false _
    c.weight-old.ensures _ c.prox-new.ensures _ c.is_finite-2.ensures c.if-not-is_finite-2.false _ _ _
    c.set_weight.ensures c.move_fit.ensures
