-- `check_list`: 2 at 7, or nothing. Assumes nothing.
use Rattle.definition.specs.Walk.{list_fault}
use Rattle.decisions.proofs.check_list.Goals as goal

pub returns-then-not-list_in_range : goal.returns-then-not-list_in_range
unfolding list_fault
returns-then-not-list_in_range c = rw (c.at.ensures, ← c.list_in_range.ensures, c.if-not-list_in_range.true)

pub returns : goal.returns
unfolding list_fault
returns c = rw (← c.list_in_range.ensures, c.if-not-list_in_range.false)
