-- `sizes_agree`: each limit in its turn, then the lengths. Assumes nothing.
use borrow.Author.Tests.{lt-leb, le-leb}
use Rattle.doubles.specs.Num.{◌and◌}
use Rattle.designs.specs.Checks.{sizes}
use Rattle.designs.proofs.inner.sizes_agree.Goals as goal
use Rattle.designs.proofs.inner.sizes_agree.Goals.{then-n-lt1-via-then-n-lt1, then-n-lt1-via-else-n-lt1+then-n-gt65536}
use Rattle.designs.proofs.inner.sizes_agree.Goals.{then-p-lt1-via-then-p-lt1, then-p-lt1-via-else-p-lt1+then-p-gt8192}

pub returns-then-n-lt1 : goal.returns-then-n-lt1
unfolding sizes ◌and◌
returns-then-n-lt1 c = elim c.then-n-lt1.branch [
  | then-n-lt1-via-then-n-lt1 w ↦ rw (lt-leb _ _ w.if-n-lt1.true)
  | then-n-lt1-via-else-n-lt1+then-n-gt65536 w ↦ rw (le-leb _ _ w.if-n-lt1.false, lt-leb _ _ w.if-n-gt65536.true)
]

pub returns-then-p-lt1 : goal.returns-then-p-lt1
unfolding sizes ◌and◌
returns-then-p-lt1 c = rw (le-leb _ _ c.if-n-lt1.false, le-leb _ _ c.if-n-gt65536.false) (elim c.then-p-lt1.branch [
  | then-p-lt1-via-then-p-lt1 w ↦ rw (lt-leb _ _ w.if-p-lt1.true)
  | then-p-lt1-via-else-p-lt1+then-p-gt8192 w ↦ rw (le-leb _ _ w.if-p-lt1.false, lt-leb _ _ w.if-p-gt8192.true)
])

pub returns-then-x-le16777216 : goal.returns-then-x-le16777216
unfolding sizes ◌and◌
returns-then-x-le16777216 c =
    rw (
      le-leb _ _ c.if-n-lt1.false,
      le-leb _ _ c.if-n-gt65536.false,
      le-leb _ _ c.if-p-lt1.false,
      le-leb _ _ c.if-p-gt8192.false,
      le-leb _ _ c.if-x-le16777216.true,
    )
    c.lengths_agree.ensures

pub returns-else-x-le16777216 : goal.returns-else-x-le16777216
unfolding sizes ◌and◌
returns-else-x-le16777216 c =
    rw (
      le-leb _ _ c.if-n-lt1.false,
      le-leb _ _ c.if-n-gt65536.false,
      le-leb _ _ c.if-p-lt1.false,
      le-leb _ _ c.if-p-gt8192.false,
      lt-leb _ _ c.if-x-le16777216.false,
    )
