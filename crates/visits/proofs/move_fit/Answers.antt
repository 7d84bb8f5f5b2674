-- `move_fit`: the fit stays where the difference is zero, and is moved and looked at otherwise. Assumes nothing.
use Rattle.visits.proofs.Laws.Visits.{stays, moves}
use Rattle.visits.proofs.move_fit.Goals as goal

pub returns-then-d : goal.returns-then-d
returns-then-d c = stays _ _ _ _ c.if-d.true

pub returns-then-not-column_finite : goal.returns-then-not-column_finite
returns-then-not-column_finite c =
    moves _ _ _ _ c.if-d.false _ _ c.column_update.ensures (rw c.if-not-column_finite.true at c.column_finite.ensures)

pub returns : goal.returns
returns c = moves _ _ _ _ c.if-d.false _ _ c.column_update.ensures (rw c.if-not-column_finite.false at c.column_finite.ensures)
