-- `extrapolated_fit` goes by the layout. Assumes nothing.
use Rattle.designs.proofs.Laws.Layouts.{as_dense}
use Rattle.columns.proofs.Laws.ByRows.{dense-sized}
use Rattle.columns.proofs.extrapolated_fit.Goals as goal

pub returns-in-Dense : goal.returns-in-Dense
returns-in-Dense c =
    rw (as_dense _ _ _ _ _ _ c.in-Dense.is, ← dense-sized c.requires.2 c.requires.1)
    c.dense_extrapolated_fit.ensures
