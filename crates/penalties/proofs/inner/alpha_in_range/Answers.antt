-- `alpha_in_range`: finite, and then the bound. Assumes nothing.
use Rattle.doubles.specs.Num.{◌and◌}
use Rattle.penalties.specs.Penalty.{alpha_legal}
use Rattle.penalties.proofs.inner.alpha_in_range.Goals as goal

pub returns-then-is_finite : goal.returns-then-is_finite
unfolding alpha_legal ◌and◌
returns-then-is_finite c = rw (← c.is_finite.ensures, c.if-is_finite.true)

pub returns-else-is_finite : goal.returns-else-is_finite
unfolding alpha_legal ◌and◌
returns-else-is_finite c = rw (← c.is_finite.ensures, c.if-is_finite.false)
