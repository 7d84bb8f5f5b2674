-- `subdiff_distance`: the numbers are tested, and the violation is the inner function's. Assumes nothing.
use Rattle.doubles.proofs.Laws.Verdict.{handed_on}
use Rattle.penalties.specs.Penalty.{penalty_violation_call}
use Rattle.penalties.proofs.separable.subdiff_distance.Goals as goal

pub returns-in_err-check_range : goal.returns-in_err-check_range
unfolding penalty_violation_call
returns-in_err-check_range c = rw (handed_on _ c.from_residual.ensures.1, ← c.in_err-check_range.ensures)

pub returns : goal.returns
unfolding penalty_violation_call
returns c = rw (← c.in_ok-check_range.ensures, c.violation.ensures)
