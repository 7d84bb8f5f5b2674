-- `all_squares` goes by the layout. Assumes nothing.
use Rattle.designs.proofs.Laws.Layouts.{as_dense}
use Rattle.passes.proofs.Laws.Rows.{tab-sized, squares-sized}
use Rattle.passes.proofs.all_squares.Goals as goal

pub returns-in-Dense : goal.returns-in-Dense
returns-in-Dense c =
    rw (as_dense _ _ _ _ _ _ c.in-Dense.is)
    (squares-sized _ _ c.requires c.dense_squares.ensures)

pub returns-in-Csc : goal.returns-in-Csc
returns-in-Csc c = tab-sized _ c.requires c.csc_squares.ensures
