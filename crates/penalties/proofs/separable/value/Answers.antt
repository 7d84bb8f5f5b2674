-- `value`: the length, then the numbers, then the inner function. Assumes nothing.
use borrow.Author.Tests.{lt-leb, le-leb}
use Rattle.doubles.specs.Num.{◌and◌}
use Rattle.doubles.proofs.Laws.Verdict.{handed_on}
use Rattle.penalties.specs.Penalty.{penalty_value_call}
use Rattle.penalties.proofs.separable.value.Goals as goal
use Rattle.penalties.proofs.separable.value.Goals.{then-n-lt1-via-then-n-lt1, then-n-lt1-via-else-n-lt1+then-n-gt8192}

pub returns-then-n-lt1 : goal.returns-then-n-lt1
unfolding penalty_value_call ◌and◌
returns-then-n-lt1 c = rw c.at.ensures (elim c.then-n-lt1.branch [
  | then-n-lt1-via-then-n-lt1 w ↦ rw (lt-leb _ _ w.if-n-lt1.true)
  | then-n-lt1-via-else-n-lt1+then-n-gt8192 w ↦ rw (le-leb _ _ w.if-n-lt1.false, lt-leb _ _ w.if-n-gt8192.true)
])

pub returns-in_err-check_range : goal.returns-in_err-check_range
unfolding penalty_value_call ◌and◌
returns-in_err-check_range c =
    rw (
      handed_on _ c.from_residual.ensures.1,
      le-leb _ _ c.if-n-lt1.false,
      le-leb _ _ c.if-n-gt8192.false,
      ← c.in_err-check_range.ensures,
    )

pub returns : goal.returns
unfolding penalty_value_call ◌and◌
returns c =
    rw (le-leb _ _ c.if-n-lt1.false, le-leb _ _ c.if-n-gt8192.false, ← c.in_ok-check_range.ensures, c.value.ensures)
