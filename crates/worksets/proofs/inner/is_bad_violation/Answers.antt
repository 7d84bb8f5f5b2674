-- `is_bad_violation`: the three tests in their turn. Assumes nothing.
use Rattle.doubles.specs.Num.{◌and◌, ◌or◌}
use Rattle.worksets.proofs.inner.is_bad_violation.Goals as goal

pub returns-then-not-is_finite : goal.returns-then-not-is_finite
unfolding ◌and◌ ◌or◌
returns-then-not-is_finite c = rw (c.if-weight.true, ← c.is_finite.ensures, c.if-not-is_finite.true)

pub returns-else-not-is_finite : goal.returns-else-not-is_finite
unfolding ◌and◌ ◌or◌
returns-else-not-is_finite c = rw (c.if-weight.true, ← c.is_finite.ensures, c.if-not-is_finite.false)

pub returns-else-weight : goal.returns-else-weight
unfolding ◌and◌ ◌or◌
returns-else-weight c = rw c.if-weight.false
