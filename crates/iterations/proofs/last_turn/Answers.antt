-- `last_turn`: the violations of all features are taken, and the run ends. Assumes nothing.
use mathlib.Core.Path.{◌≡◌, refl, sym, ◌∙◌}
use lib.ListN.{length}
use lib.Seq.{length-take-le}
use Rattle.definition.specs.Inner.Problem.{task_in}
use Rattle.definition.proofs.Laws.Problem.{task_is}
use Rattle.visits.proofs.Laws.Violations.{broken_off}
use Rattle.epochs.proofs.Laws.Ready.{room_for}
use Rattle.iterations.proofs.Laws.Turns.{turn-bad, last_stops}
use Rattle.iterations.proofs.last_turn.Goals as goal
use Rattle.iterations.proofs.last_turn.Goals.{After-opt_cond_violation}

long : (c : After-opt_cond_violation) → length c.opt_cond_violation.new.violations ≡ c.args.problem.now.x.matrix.shape.p
long c = c.opt_cond_violation.auto.violations ∙ length-take-le _ _ (room_for c.requires)

pub slice_bounds-opt_cond_violation-end : goal.slice_bounds-opt_cond_violation-end
slice_bounds-opt_cond_violation-end c = room_for c.requires

pub slice_bounds-opt_cond_violation-end-2 : goal.slice_bounds-opt_cond_violation-end-2
slice_bounds-opt_cond_violation-end-2 c = sym (length-take-le _ _ (room_for c.requires))

pub opt_cond_violation-requires : goal.opt_cond_violation-requires
opt_cond_violation-requires c =
    rw c.task.ensures.0 (c.requires.weights, c.requires.fits, length-take-le _ _ (room_for c.requires))

pub returns-in_err-v : goal.returns-in_err-v
returns-in_err-v c =
    let told = rw (task_is c.task.result c.args.problem.now c.task.ensures) at c.in_err-v.ensures in
    λ sets. rw (broken_off _ c.from_residual.ensures.1, ← turn-bad (task_in c.args.problem.now) _ _ _ _ _ _ _ sets told)

pub returns : goal.returns
returns c =
    let told = rw (task_is c.task.result c.args.problem.now c.task.ensures) at c.in_ok-v.ensures in
    let there = (goal.at.returns c).After-opt_cond_violation in
    λ sets. last_stops c.args.problem.now _ _ _ _ _ _ _ (long there) told sets refl
