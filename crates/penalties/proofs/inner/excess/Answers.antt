-- `excess` goes by the test of its definition. Assumes nothing.
use Rattle.penalties.specs.Penalty.{excess}
use Rattle.penalties.proofs.inner.excess.Goals as goal

pub returns-then-over : goal.returns-then-over
unfolding excess
returns-then-over c = rw (← c.abs.ensures, c.if-over.true)

pub returns-else-over : goal.returns-else-over
unfolding excess
returns-else-over c = rw (← c.abs.ensures, c.if-over.false)
