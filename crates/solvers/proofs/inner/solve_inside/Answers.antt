-- `solve_inside`: the run, then the room it used is cleared; what it came to decides over weights and fit. Assumes nothing.
use mathlib.Core.Path.{ap, ◌∙◌}
use Prim.Native.Nat.{ℕ}
use Rattle.doubles.specs.Steps.{tab, zeros}
use Rattle.solvers.proofs.Laws.Calls.{run-done, run-given_up}
use Rattle.solvers.proofs.inner.solve_inside.Goals as goal

pub returns-in-Ok : goal.returns-in-Ok
returns-in-Ok c =
    let P = c.args.problem.now in
    let done = run-done P.settings P.x.matrix.shape _ _ _ _ _ c.start_run-ended.ensures _ c.in-Ok.is in
    let ends = done _ c.report.ensures in
    let indices = c.clear_indices.ensures ∙ ap (tab {A = ℕ} (λ j. 0)) (c.start_run-ended.auto.indices ∙ c.requires.1) in
    (ends.0, ends.1, indices, c.clear.ensures ∙ ap zeros (c.start_run-ended.auto.scratch ∙ c.requires.0.room))

pub returns-in-Err : goal.returns-in-Err
returns-in-Err c =
    let P = c.args.problem.now in
    let s = P.x.matrix.shape in
    let given_up = run-given_up P.settings s _ _ _ _ _ c.start_run-ended.ensures _ c.in-Err.is in
    let w = c.start_run-ended.auto.w ∙ c.requires.0.weights in
    let fit = c.start_run-ended.auto.fit ∙ c.requires.0.fits in
    let ends = given_up _ _ c.clear-in-Err.ensures c.clear-in-Err-2.ensures w fit in
    let indices = c.clear_indices.ensures ∙ ap (tab {A = ℕ} (λ j. 0)) (c.start_run-ended.auto.indices ∙ c.requires.1) in
    (ends.0, ends.1, indices, c.clear.ensures ∙ ap zeros (c.start_run-ended.auto.scratch ∙ c.requires.0.room))
