-- `column_finite` goes by the layout; a dense column has every sample. Assumes nothing.
use Rattle.columns.proofs.Laws.Finite.{dense-finite}
use Rattle.columns.proofs.column_finite.Goals as goal

pub returns-in-Dense : goal.returns-in-Dense
returns-in-Dense c = dense-finite _ _ _ _ _ _ _ _ _ c.in-Dense.is c.requires.1 c.all_finite.ensures
