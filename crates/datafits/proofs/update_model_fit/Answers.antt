-- `update_model_fit`: the tests, then the column. Assumes nothing.
use mathlib.Core.Path.{refl, sym}
use borrow.Author.Tests.{leb-true, ltb-true}
use Rattle.doubles.proofs.Laws.Verdict.{handed_on}
use Rattle.designs.proofs.Laws.Passed.{admits}
use Rattle.datafits.specs.Calls.{update_fault, updated}
use Rattle.datafits.proofs.update_model_fit.Goals as goal

pub column_update-requires : goal.column_update-requires
column_update-requires c =
    let a = admits _ _ _ (sym c.in_ok-x.ensures.fault) in
    rw c.in_ok-x.ensures.design (ltb-true _ _ a.fit, leb-true _ _ a.roomy)

pub returns-in_err-x : goal.returns-in_err-x
unfolding update_fault updated
returns-in_err-x c = rw (handed_on _ c.from_residual.ensures.1, ← c.in_err-x.ensures.fault) (refl, refl)

pub returns : goal.returns
unfolding update_fault updated
returns c = rw (← c.in_ok-x.ensures.fault, c.column_update.ensures, c.in_ok-x.ensures.design) (refl, refl)
