-- `try_fit`: the run, and what is said of it. Assumes nothing.
use Rattle.definition.specs.Inner.Problem.{given_in}
use Rattle.walks.proofs.Laws.Fits.{tried}
use Rattle.walks.proofs.try_fit.Goals as goal

pub returns : goal.returns
returns c =
    let run = c.solve_inside-fitted in
    let P = c.args.problem.now in
    let done = tried (given_in P) P.settings P.prepared.now c.args.most c.args.position _ _ _ _ _ _ _ run.ensures in
    done c.nonzeros.ensures c.judge.ensures
