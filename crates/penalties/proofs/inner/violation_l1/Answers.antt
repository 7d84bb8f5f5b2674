-- `violation_l1` goes by the test of its definition. Assumes nothing.
use Rattle.penalties.specs.Penalty.{violation_l1}
use Rattle.penalties.proofs.inner.violation_l1.Goals as goal

pub returns-then-w : goal.returns-then-w
unfolding violation_l1
returns-then-w c = rw c.if-w.true c.excess.ensures

pub returns-else-w : goal.returns-else-w
unfolding violation_l1
returns-else-w c = rw (c.if-w.false, ← c.signum.ensures) c.abs.ensures
