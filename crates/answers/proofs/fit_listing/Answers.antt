-- `fit_listing`: the fit of the problem, then its listing. Assumes nothing.
use mathlib.Core.Path.{sym}
use native.Mathlib.Nat.{le_of_eq, le_trans}
use Rattle.doubles.specs.Answer.{outcome_of}
use Rattle.definition.specs.Call.{lent}
use Rattle.answers.proofs.Laws.Calls.{fit-listed}
use Rattle.answers.specs.Printed.{problem_fit, problem_left}
use Rattle.answers.specs.Inner.InPlaces.{problem_in}
use Rattle.answers.proofs.fit_listing.Goals as goal

-- its weights and its fit are in the first places of the program's own
pub returns : goal.returns
unfolding problem_fit problem_left
returns c =
    let told = c.write_listing.ensures in
    let fit = c.fit_problem-answer in
    let l = fit.new in
    let left_there = lent l.w l.fit l.indices l.scratch in
    let a = c.args in
    let k = c.requires in
    let problem = problem_in a.problem a.targets.now a.values.now a.starts.now a.rows.now in
    let listed = fit-listed problem (outcome_of fit.result) left_there a.out.now _ _ fit.ensures.0 fit.ensures.1 in
    let weights = le_trans k.features (le_of_eq (sym fit.auto.w)) in
    let entries = le_trans k.samples (le_of_eq (sym fit.auto.fit)) in
    let e = listed weights k.features entries k.samples told.0 told.1 in
    (e.0, e.1, told.2)
