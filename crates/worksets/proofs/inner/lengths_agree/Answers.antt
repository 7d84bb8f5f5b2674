-- `lengths_agree`: each limit in its turn, then the lengths. Assumes nothing.
use mathlib.Core.Logic.{inl, inr}
use borrow.Author.Tests.{lt-leb, le-leb}
use Rattle.doubles.specs.Num.{◌and◌}
use native.Mathlib.Omega.{arith}
use Rattle.worksets.proofs.inner.lengths_agree.Goals as goal
use Rattle.worksets.proofs.inner.lengths_agree.Goals.{then-p-ge1, else-p-ge1}

pub returns-then-p-le8192 : goal.returns-then-p-le8192
unfolding ◌and◌
returns-then-p-le8192 c = rw (le-leb _ _ c.if-p-le8192.true.0, le-leb _ _ c.if-p-le8192.true.1)

pub returns-else-p-le8192 : goal.returns-else-p-le8192
unfolding ◌and◌
returns-else-p-le8192 c = elim c.if-p-ge1.branch [
  | then-p-ge1 w ↦ rw (w.t-5-is, le-leb _ _ w.if-p-ge1.true) (elim c.if-p-le8192.either [ inl h ↦ rw (lt-leb _ _ h.1) | inr h ↦ absurd (omega arith) ])
  | else-p-ge1 w ↦ rw (w.t-5-is, lt-leb _ _ w.if-p-ge1.false)
]
