-- `is_check_due`: never at epoch 0. Assumes nothing.
use Rattle.doubles.specs.Num.{◌and◌}
use Rattle.definition.specs.Run.{checks}
use borrow.Author.Tests.{lt-ltb}
use Rattle.doubles.proofs.Laws.Choice.{positive}
use Rattle.decisions.proofs.is_check_due.Goals as goal

pub returns-then-e-ne0 : goal.returns-then-e-ne0
unfolding checks ◌and◌
returns-then-e-ne0 c = rw (lt-ltb 0 _ (positive _ c.if-e-ne0.true))

pub returns-else-e-ne0 : goal.returns-else-e-ne0
unfolding checks ◌and◌
returns-else-e-ne0 c = rw c.if-e-ne0.false
