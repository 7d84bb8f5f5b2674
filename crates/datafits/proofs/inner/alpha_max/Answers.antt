-- `alpha_max`: the tests, then the largest. Assumes nothing.
use mathlib.Core.Path.{refl, sym}
use native.Mathlib.Nat.{le_of_eq}
use borrow.Author.Tests.{leb-true, eqb-true}
use Rattle.doubles.proofs.Laws.Verdict.{handed_on}
use Rattle.designs.proofs.Laws.Passed.{admits}
use Rattle.datafits.specs.Calls.{alpha_max_fault, alpha_max_call, alpha_max_left}
use Rattle.datafits.proofs.inner.alpha_max.Goals as goal

pub largest_of-requires : goal.largest_of-requires
largest_of-requires c =
    let a = admits _ _ _ (sym c.in_ok-x.ensures.fault) in
    rw c.in_ok-x.ensures.design (a.sized.few, leb-true _ _ a.roomy, le_of_eq (sym (eqb-true _ _ a.fit)))

pub returns-in_err-x : goal.returns-in_err-x
unfolding alpha_max_fault alpha_max_call alpha_max_left
returns-in_err-x c = rw (handed_on _ c.from_residual.ensures.1, ← c.in_err-x.ensures.fault) (refl, refl)

pub returns : goal.returns
unfolding alpha_max_fault alpha_max_call alpha_max_left
returns c =
    rw (← c.in_ok-x.ensures.fault, c.largest_of.ensures.0, c.largest_of.ensures.1, c.in_ok-x.ensures.design) (refl, refl)
