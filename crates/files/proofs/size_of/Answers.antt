-- `size_of`: by one test. Assumes nothing.
use borrow.Author.Tests.{le-leb, lt-leb}
use Rattle.files.proofs.size_of.Goals as goal

pub returns-then-tag-le3 : goal.returns-then-tag-le3
returns-then-tag-le3 c = rw (le-leb _ _ c.if-tag-le3.true)

pub returns-else-tag-le3 : goal.returns-else-tag-le3
returns-else-tag-le3 c = rw (lt-leb _ _ c.if-tag-le3.false)
