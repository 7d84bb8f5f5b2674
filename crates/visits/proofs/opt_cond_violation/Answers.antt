-- `opt_cond_violation`: the gradients of all features, each turned into its violation where it stands. Assumes nothing.
use mathlib.Core.Path.{ap, ◌∙◌}
use Rattle.visits.specs.Inner.Reading.{finished}
use Rattle.visits.proofs.Laws.Violations.{finished-measured}
use Rattle.visits.proofs.opt_cond_violation.Goals as goal

pub returns : goal.returns
returns c =
    let P = c.args.task.now in
    let x = P.x.matrix in
    c.finish_violations.ensures ∙ ap (finished P.penalty c.args.w.now) c.all_gradients.ensures
    ∙ finished-measured x.shape x.starts.now x.rows.now x.values.now P.penalty P.prepared.now c.args.w.now c.args.fit.now
