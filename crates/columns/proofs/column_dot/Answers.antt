-- `column_dot` goes by the layout. Assumes nothing.
use Rattle.designs.proofs.Laws.Layouts.{as_dense}
use Rattle.columns.proofs.column_dot.Goals as goal

pub returns-in-Dense : goal.returns-in-Dense
returns-in-Dense c = rw (as_dense _ _ _ _ _ _ c.in-Dense.is) c.dense_dot.ensures
