-- `run_epoch`: the visits, the extrapolation, and the check where it is due. Assumes nothing.
use native.Mathlib.Omega.{arith}
use Rattle.definition.specs.Inner.Problem.{task_in}
use Rattle.visits.proofs.Laws.Violations.{broken_off}
use Rattle.epochs.proofs.Laws.Epochs.{epoch-bad, epoch_unchecked, epoch-checked, counts-checked}
use Rattle.definition.proofs.Laws.Problem.{task_is}
use Rattle.epochs.proofs.run_epoch.Goals as goal

pub returns-in_err-cd_epoch : goal.returns-in_err-cd_epoch
returns-in_err-cd_epoch c =
    let told = rw (task_is c.task.result c.args.problem.now c.task.ensures) at c.in_err-cd_epoch.ensures in
    rw (broken_off _ c.from_residual.ensures.1)
    (epoch-bad (task_in c.args.problem.now) _ _ _ _ _ _ _ _ _ told, omega arith, omega arith)

pub returns-then-is_check_due : goal.returns-then-is_check_due
returns-then-is_check_due c =
    let told = rw (task_is c.task.result c.args.problem.now c.task.ensures) at c.in_ok-cd_epoch.ensures in
    let e = c.accelerate-after.ensures in
    let counts = counts-checked c.check.result c.args.counts c.accelerate-after.result c.check.ensures.1 e.1 e.2 in
    let checked = epoch-checked (task_in c.args.problem.now) _ _ _ _ _ _ _ _ _ _ _ told _ _ _ _ e.0 in
    (checked _ c.is_check_due.ensures c.if-is_check_due.true _ (c.check.ensures.0 _), counts.0, counts.1)

pub returns-else-is_check_due : goal.returns-else-is_check_due
returns-else-is_check_due c =
    let told = rw (task_is c.task.result c.args.problem.now c.task.ensures) at c.in_ok-cd_epoch.ensures in
    let e = c.accelerate-after.ensures in
    let unchecked = epoch_unchecked (task_in c.args.problem.now) _ _ _ _ _ _ _ _ _ _ _ told _ _ _ _ e.0 in
    (unchecked _ c.is_check_due.ensures c.if-is_check_due.false, e.1, e.2)
