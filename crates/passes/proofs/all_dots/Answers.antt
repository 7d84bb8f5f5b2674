-- `all_dots` goes by the layout. Assumes nothing.
use mathlib.Core.Path.{refl}
use Rattle.designs.proofs.Laws.Layouts.{as_dense, samples, features}
use Rattle.columns.proofs.Laws.ByRows.{dense-sized}
use Rattle.passes.proofs.Laws.Rows.{as_dots}
use Rattle.passes.proofs.all_dots.Goals as goal

pub returns-in-Dense : goal.returns-in-Dense
returns-in-Dense c =
    rw (as_dense _ _ _ _ _ _ c.in-Dense.is, ← dense-sized refl c.requires.0)
    c.dense_dots.ensures

pub returns-in-Csc : goal.returns-in-Csc
returns-in-Csc c =
    as_dots _ _ _ (samples _ _ _ _ _ _) (features _ _ _ _ _ _) _ _ _ c.requires.0 c.dots_by_column.ensures
