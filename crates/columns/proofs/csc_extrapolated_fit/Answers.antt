-- `csc_extrapolated_fit`: zeros, then the columns. Assumes nothing.
use mathlib.Core.Path.{sym, ◌∙◌}
use Rattle.designs.proofs.Laws.Layouts.{samples}
use Rattle.columns.proofs.Laws.ByRows.{from-zeros}
use Rattle.columns.proofs.csc_extrapolated_fit.Goals as goal

pub returns : goal.returns
returns c =
    from-zeros _ _ _ _ _ _ (c.requires.3 ∙ sym (samples _ _ _ _ _ _)) c.clear.ensures
    c.csc_update_all.ensures
