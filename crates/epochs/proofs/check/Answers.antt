-- `check`: the largest violation is known, and it is enough or not. Assumes nothing.
use mathlib.Core.Path.{refl}
use Rattle.visits.proofs.Laws.Violations.{broken_off}
use Rattle.epochs.proofs.Laws.Epochs.{checked-bad, checked_stops, checked_goes}
use Rattle.definition.proofs.Laws.Problem.{task_is}
use Rattle.epochs.proofs.check.Goals as goal

pub returns-in_err-v : goal.returns-in_err-v
returns-in_err-v c =
    let told = rw (task_is c.task.result c.args.problem.now c.task.ensures) at c.in_err-v.ensures in
    rw (broken_off _ c.from_residual.ensures.1) (λ kept. checked-bad _ _ _ _ _ told, refl)

pub returns-then-is_enough : goal.returns-then-is_enough
returns-then-is_enough c =
    let told = rw (task_is c.task.result c.args.problem.now c.task.ensures) at c.in_ok-v.ensures in
    (λ kept. checked_stops _ _ _ _ _ _ told _ _ refl c.is_enough.ensures c.if-is_enough.true, refl)

pub returns-else-is_enough : goal.returns-else-is_enough
returns-else-is_enough c =
    let told = rw (task_is c.task.result c.args.problem.now c.task.ensures) at c.in_ok-v.ensures in
    (λ kept. checked_goes _ _ _ _ _ _ told _ _ refl c.is_enough.ensures c.if-is_enough.false, refl)
