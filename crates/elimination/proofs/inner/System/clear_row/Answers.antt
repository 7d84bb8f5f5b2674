-- `clear_row`: a zero pivot is passed over; otherwise one row is replaced. Assumes nothing.
use mathlib.Core.Path.{refl}
use Rattle.elimination.specs.Elimination.{cleared}
use Rattle.elimination.proofs.inner.System.clear_row.Goals as goal

pub returns-then-pivot : goal.returns-then-pivot
unfolding cleared
returns-then-pivot c = (rw c.if-pivot.true, refl)

pub returns : goal.returns
unfolding cleared
returns c = (rw (c.if-pivot.false, c.reduce_row.ensures), refl)
