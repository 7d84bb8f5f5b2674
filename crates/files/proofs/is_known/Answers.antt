-- `is_known`: by the layout. Assumes nothing.
use borrow.Author.Tests.{le-leb, lt-leb}
use Rattle.doubles.specs.Num.{◌and◌}
use Rattle.files.proofs.is_known.Goals as goal
use Rattle.files.proofs.is_known.Goals.{in-Dense, in-Csc}

pub returns-then-tag-ge2 : goal.returns-then-tag-ge2
unfolding ◌and◌
returns-then-tag-ge2 c =
    elim c.match-layout.branch [
      | in-Dense w ↦ rw (le-leb _ _ c.if-tag-ge2.true, w.in-Dense.is, w.last-is)
      | in-Csc w ↦ rw (le-leb _ _ c.if-tag-ge2.true, w.in-Csc.is, w.last-is)
    ]

pub returns-else-tag-ge2 : goal.returns-else-tag-ge2
unfolding ◌and◌
returns-else-tag-ge2 c = rw (lt-leb _ _ c.if-tag-ge2.false)
