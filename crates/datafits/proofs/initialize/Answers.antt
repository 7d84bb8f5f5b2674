-- `initialize`: the tests, then the preparation. Assumes nothing.
use mathlib.Core.Path.{refl, sym, ◌∙◌}
use native.Mathlib.Nat.{le_of_eq}
use borrow.Author.Tests.{leb-true, eqb-true}
use Rattle.doubles.proofs.Laws.Verdict.{handed_on}
use Rattle.designs.proofs.Laws.Passed.{admits}
use Rattle.designs.specs.Checks.{preparation_fault}
use Rattle.datafits.specs.Calls.{initialized}
use Rattle.datafits.proofs.initialize.Goals as goal

pub initialize-requires : goal.initialize-requires
initialize-requires c =
    let a = admits _ _ _ (sym c.in_ok-x.ensures.fault) in
    rw c.in_ok-x.ensures.design (a.sized.few, leb-true _ _ (sym c.room_twice-room.ensures ∙ a.roomy), le_of_eq (sym (eqb-true _ _ a.fit)))

pub returns-in_err-x : goal.returns-in_err-x
unfolding preparation_fault initialized
returns-in_err-x c =
    rw (handed_on _ c.from_residual.ensures.1, ← c.room_twice-room.ensures, ← c.in_err-x.ensures.fault) (refl, refl)

pub returns : goal.returns
unfolding preparation_fault initialized
returns c =
    rw (← c.room_twice-room.ensures, ← c.in_ok-x.ensures.fault, c.initialize.ensures, c.in_ok-x.ensures.design) (refl, refl)
