-- `fit_problem`: the sizes and the settings, then the preparation, then the solve with what it left. Assumes nothing.
use Rattle.doubles.proofs.Laws.Verdict.{handed_on}
use Rattle.answers.proofs.Laws.Calls.{early_refused, preparation-refused, problem-solved}
use Rattle.answers.proofs.fit_problem.Goals as goal

pub returns-in_err-check_early : goal.returns-in_err-check_early
returns-in_err-check_early c = rw (handed_on _ c.from_residual.ensures.1) (early_refused _ _ _ _ _ c.in_err-check_early.ensures)

pub returns-in_err-prepare : goal.returns-in_err-prepare
returns-in_err-prepare c =
    let early = c.in_ok-check_early.ensures in
    let told = c.in_err-prepare.ensures in
    rw (handed_on _ c.from_residual-in_err-prepare.ensures.1) (preparation-refused _ _ _ early _ told.1 _ _ told.0)

pub returns : goal.returns
returns c =
    let prepared = c.in_ok-prepare.ensures in
    problem-solved _ _ _ c.in_ok-check_early.ensures _ prepared.1 prepared.0 _ _ c.solve.ensures
