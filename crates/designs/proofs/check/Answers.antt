-- `check` is `admit` with targets and no lent buffer. Assumes nothing.
use Rattle.doubles.proofs.Laws.Verdict.{handed_on}
use Rattle.designs.specs.Checks.{check_call}
use Rattle.designs.proofs.check.Goals as goal

pub returns-in_err-admit : goal.returns-in_err-admit
unfolding check_call
returns-in_err-admit c = rw (handed_on _ c.from_residual.ensures.1) c.in_err-admit.ensures.fault

pub returns : goal.returns
unfolding check_call
returns c = c.in_ok-admit.ensures.fault
