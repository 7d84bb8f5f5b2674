-- `sizes_fit`: the tests in their turn. Assumes nothing.
use borrow.Author.Tests.{le-leb, lt-leb}
use Rattle.doubles.specs.Num.{◌and◌}
use Rattle.listings.proofs.inner.sizes_fit.Goals as goal

pub returns-then-w-le32 : goal.returns-then-w-le32
unfolding ◌and◌
returns-then-w-le32 c = rw (le-leb _ _ c.if-w-le32.true)

pub returns-else-w-le32 : goal.returns-else-w-le32
unfolding ◌and◌
returns-else-w-le32 c = rw (lt-leb _ _ c.if-w-le32.false)
