-- `violation_l1_plus_l2` goes by the test of its definition. Assumes nothing.
use Rattle.penalties.specs.Penalty.{violation_l1_plus_l2}
use Rattle.penalties.proofs.inner.violation_l1_plus_l2.Goals as goal

pub returns-then-w : goal.returns-then-w
unfolding violation_l1_plus_l2
returns-then-w c = rw c.if-w.true c.excess.ensures

pub returns-else-w : goal.returns-else-w
unfolding violation_l1_plus_l2
returns-else-w c = rw (c.if-w.false, ← c.signum.ensures) c.abs.ensures
