-- By whether the start is the first. Assumes nothing.
use borrow.Author.Tests.{eq-eqb, ne_eqb}
use Rattle.designs.specs.Checks.{falls}
use Rattle.designs.proofs.inner.is_fall.Goals as goal

pub returns-then-i-eq0 : goal.returns-then-i-eq0
unfolding falls
returns-then-i-eq0 c = rw (eq-eqb _ _ c.if-i-eq0.true)

pub returns-else-i-eq0 : goal.returns-else-i-eq0
unfolding falls
returns-else-i-eq0 c = rw (ne_eqb _ _ c.if-i-eq0.false)
