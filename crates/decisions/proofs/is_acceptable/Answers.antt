-- `is_acceptable`: the tests in their turn. Assumes nothing.
use Rattle.doubles.specs.Num.{◌and◌}
use Rattle.definition.specs.Call.{acceptable}
use Rattle.decisions.proofs.is_acceptable.Goals as goal

pub returns-then-is_usable_at : goal.returns-then-is_usable_at
unfolding acceptable ◌and◌
returns-then-is_usable_at c = rw (← c.is_usable_at.ensures, c.if-is_usable_at.true)

pub returns-else-is_usable_at : goal.returns-else-is_usable_at
unfolding acceptable ◌and◌
returns-else-is_usable_at c = rw (← c.is_usable_at.ensures, c.if-is_usable_at.false)
