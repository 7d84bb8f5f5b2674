-- `ratio_in_range` goes by the two tests of its definition. Assumes nothing.
use Rattle.doubles.specs.Num.{◌and◌}
use Rattle.penalties.specs.Penalty.{ratio_legal}
use Rattle.penalties.proofs.inner.ratio_in_range.Goals as goal

pub returns-then-ratio : goal.returns-then-ratio
unfolding ratio_legal ◌and◌
returns-then-ratio c = rw c.if-ratio.true

pub returns-else-ratio : goal.returns-else-ratio
unfolding ratio_legal ◌and◌
returns-else-ratio c = rw c.if-ratio.false
