-- `is_whole`: the head first, then the body. Assumes nothing.
use borrow.Author.Tests.{le-leb, lt-leb}
use Rattle.doubles.specs.Num.{◌and◌}
use Rattle.files.specs.Problem.{whole}
use Rattle.files.proofs.is_whole.Goals as goal

pub returns-then-at-file : goal.returns-then-at-file
unfolding whole ◌and◌
returns-then-at-file c = rw (le-leb _ _ c.if-at-file.true, ← c.u16_at.ensures.0)

pub returns-else-at-file : goal.returns-else-at-file
unfolding whole ◌and◌
returns-else-at-file c = rw (lt-leb _ _ c.if-at-file.false)
