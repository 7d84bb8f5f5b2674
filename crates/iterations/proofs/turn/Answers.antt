-- `turn`: the violations of all features are taken; the run ends, or an iteration follows. Assumes nothing.
use mathlib.Core.Path.{◌≡◌, refl, sym, ◌∙◌}
use lib.ListN.{length}
use lib.Seq.{length-take-le}
use Rattle.definition.specs.Inner.Problem.{task_in}
use Rattle.definition.proofs.Laws.Problem.{task_is}
use Rattle.visits.proofs.Laws.Violations.{broken_off}
use Rattle.epochs.proofs.Laws.Ready.{room_for, ready_still}
use Rattle.iterations.proofs.Laws.Turns.{violations-read, long_as_before, found-violations, found-known}
use Rattle.iterations.proofs.Laws.Turns.{turn-bad, turn_stops, turn_goes_on, grown-none, grown-same}
use Rattle.iterations.proofs.turn.Goals as goal
use Rattle.iterations.proofs.turn.Goals.{After-opt_cond_violation}

long : (c : After-opt_cond_violation) → length c.opt_cond_violation.new.violations ≡ c.args.problem.now.x.matrix.shape.p
long c = c.opt_cond_violation.auto.violations ∙ length-take-le _ _ (room_for c.requires.0)

pub slice_bounds-opt_cond_violation-end : goal.slice_bounds-opt_cond_violation-end
slice_bounds-opt_cond_violation-end c = room_for c.requires.0

pub slice_bounds-opt_cond_violation-end-2 : goal.slice_bounds-opt_cond_violation-end-2
slice_bounds-opt_cond_violation-end-2 c = sym (length-take-le _ _ (room_for c.requires.0))

pub opt_cond_violation-requires : goal.opt_cond_violation-requires
opt_cond_violation-requires c =
    let ready = c.requires.0 in
    rw c.task.ensures.0 (ready.weights, ready.fits, length-take-le _ _ (room_for ready))

pub returns-in_err-v : goal.returns-in_err-v
returns-in_err-v c =
    let told = rw (task_is c.task.result c.args.problem.now c.task.ensures) at c.in_err-v.ensures in
    rw (broken_off _ c.from_residual.ensures.1)
    (λ t l sets. turn-bad (task_in c.args.problem.now) _ _ _ _ _ _ _ sets told, grown-none _)

pub returns-then-v-problem : goal.returns-then-v-problem
returns-then-v-problem c =
    let told = rw (task_is c.task.result c.args.problem.now c.task.ensures) at c.in_ok-v.ensures in
    let there = (goal.at.returns-then-v-problem c).After-opt_cond_violation in (
      λ t l sets. turn_stops c.args.problem.now t _ _ _ _ _ _ (long there) told sets c.if-v-problem.true,
      grown-same _ _,
    )

pub iterate-requires : goal.iterate-requires
iterate-requires c =
    let told = rw (task_is c.task.result c.args.problem.now c.task.ensures) at c.in_ok-v.ensures in
    let P = c.args.problem.now in
    let there = (goal.at.iterate-requires c).After-opt_cond_violation in
    let same = long_as_before P c.args.scratch.now c.opt_cond_violation.new.violations (long there) (room_for c.requires.0) in (
      ready_still c.requires.0 _ _ _ refl refl same,
      c.requires.1,
      c.requires.2,
      violations-read P _ _ (long there) ∙ found-violations (task_in P) _ _ _ _ told,
      found-known (task_in P) _ _ _ _ told,
    )

pub returns : goal.returns
returns c =
    let told = rw (task_is c.task.result c.args.problem.now c.task.ensures) at c.in_ok-v.ensures in
    let there = (goal.at.returns c).After-opt_cond_violation in
    let next = c.iterate.new in (
      λ t l sets.
          turn_goes_on c.args.problem.now t _ _ _ _ _ _ (long there) told sets c.if-v-problem.false l
          c.iterate.result next.w next.fit next.scratch (c.iterate.ensures.0 sets),
      c.iterate.ensures.1,
    )
