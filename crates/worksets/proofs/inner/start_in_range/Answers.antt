-- `start_in_range`: the lower limit, then the upper. Assumes nothing.
use borrow.Author.Tests.{lt-leb, le-leb}
use Rattle.doubles.specs.Num.{◌and◌}
use Rattle.worksets.proofs.inner.start_in_range.Goals as goal

pub returns-then-start-ge1 : goal.returns-then-start-ge1
unfolding ◌and◌
returns-then-start-ge1 c = rw (le-leb _ _ c.if-start-ge1.true)

pub returns-else-start-ge1 : goal.returns-else-start-ge1
unfolding ◌and◌
returns-else-start-ge1 c = rw (lt-leb _ _ c.if-start-ge1.false)
