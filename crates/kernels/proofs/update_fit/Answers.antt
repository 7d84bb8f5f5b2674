-- `update_fit`: the tests, then the column. Assumes nothing.
use mathlib.Core.Path.{refl}
use Rattle.doubles.proofs.Laws.Verdict.{handed_on}
use Rattle.kernels.specs.Kernels.{update_left}
use Rattle.kernels.proofs.update_fit.Goals as goal

pub returns-in_err-x : goal.returns-in_err-x
unfolding update_left
returns-in_err-x c = rw (handed_on _ c.from_residual.ensures.1, ← c.in_err-x.ensures.fault) (refl, refl)

pub returns : goal.returns
unfolding update_left
returns c = rw (← c.in_ok-x.ensures.fault, c.column_update.ensures, c.in_ok-x.ensures.design.0) (refl, refl)
