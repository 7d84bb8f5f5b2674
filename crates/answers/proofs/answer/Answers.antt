-- `answer`: what is read is fitted and listed, and what is refused is told. Assumes nothing.
use native.Mathlib.Omega.{arith}
use Rattle.answers.proofs.Laws.Calls.{read-refused, read_problem_lem, refusal-printed, fit-printed, own_room}
use Rattle.files.specs.Call.{places}
use Rattle.answers.proofs.answer.Goals as goal

pub returns-in-Err : goal.returns-in-Err
returns-in-Err c =
    let told = c.write_listing.ensures in
    let refused = read-refused _ _ (own_room _) _ _ c.in-Err.ensures.0 in
    let e = refusal-printed _ _ _ _ _ c.args.out.now _ _ refused (omega arith) (omega arith) told.0 told.1 in
    (e.0, e.1, told.2)

pub returns-in-Ok : goal.returns-in-Ok
returns-in-Ok c =
    let told = c.fit_listing.ensures in
    let read = c.in-Ok.ensures in
    let l = c.read.new in
    let there = places l.targets l.values l.starts l.rows in
    let e = fit-printed _ _ c.args.out.now _ _ (read_problem_lem _ _ (own_room _) _ there read.0 read.1) told.0 told.1 in
    (e.0, e.1, told.2)
