-- `is_good_at`: alpha's range, then the one before, if there is one. Assumes nothing.
use borrow.Author.Tests.{eq-eqb, ne_eqb}
use Rattle.doubles.specs.Num.{◌and◌, ◌or◌}
use Rattle.definition.specs.Walk.{good_at}
use Rattle.decisions.proofs.is_good_at.Goals as goal

pub returns-else-alpha_in_range : goal.returns-else-alpha_in_range
unfolding good_at ◌and◌
returns-else-alpha_in_range c = rw (← c.alpha_in_range.ensures, c.if-alpha_in_range.false)

pub returns-then-k-eq0 : goal.returns-then-k-eq0
unfolding good_at ◌and◌ ◌or◌
returns-then-k-eq0 c = rw (← c.alpha_in_range.ensures, c.if-alpha_in_range.true, eq-eqb _ _ c.if-k-eq0.true)

pub returns-else-k-eq0 : goal.returns-else-k-eq0
unfolding good_at ◌and◌ ◌or◌
returns-else-k-eq0 c = rw (← c.alpha_in_range.ensures, c.if-alpha_in_range.true, ne_eqb _ _ c.if-k-eq0.false)
