-- `step_of`: with extrapolation on, the depth is in its range. Assumes nothing.
use Rattle.definition.proofs.Laws.Settings.{deep, shallow}
use Rattle.epochs.proofs.step_of.Goals as goal

pub invariant_of-result-clause-deep : goal.invariant_of-result-clause-deep
invariant_of-result-clause-deep c = let P = c.args.problem.now in deep P.settings P.legal c.requires

pub invariant_of-result-clause-shallow : goal.invariant_of-result-clause-shallow
invariant_of-result-clause-shallow c = let P = c.args.problem.now in shallow P.settings P.legal c.requires
