-- `compute_extrapolated_fit`: the tests, then the fit. Assumes nothing.
use mathlib.Core.Path.{◌≡◌, refl, sym, ◌∙◌}
use lib.Dec.{leb}
use lib.ListN.{length}
use borrow.Author.Tests.{leb-true, le-leb, lt-leb}
use Rattle.doubles.specs.Num.{◌and◌}
use Rattle.doubles.proofs.Laws.Choice.{and_both}
use Rattle.doubles.proofs.Laws.Verdict.{handed_on}
use Rattle.designs.proofs.Laws.Passed.{admits}
use Rattle.datafits.proofs.Laws.Calls.{each_below, chain_on, chain_broken}
use Rattle.datafits.specs.Calls.{all_below, extrapolated_fault, extrapolated_fit}
use Rattle.datafits.proofs.compute_extrapolated_fit.Goals as goal
use Rattle.datafits.proofs.compute_extrapolated_fit.Goals.{After-admit, then-ws-p, else-ws-p, then-p-w, else-p-w}

-- the list and the room, as the definition tests them
fits : (c : After-admit) → c.if-ws-p.fits ≡ leb (length c.args.ws.now) c.args.x.now.shape.p and all_below c.args.ws.now c.args.x.now.shape.p
fits c = elim c.if-ws-p.branch [
  | then-ws-p w ↦ chain_on (le-leb _ _ w.if-ws-p.true) (w.fits-is ∙ w.all_below-fits.ensures)
  | else-ws-p w ↦ chain_broken _ (lt-leb _ _ w.if-ws-p.false) w.fits-is
]

room : (c : After-admit) → c.if-p-w.room ≡ leb c.args.x.now.shape.p (length c.args.w.now) and leb c.args.x.now.shape.n (length c.args.fit.now)
room c = elim c.if-p-w.branch [
  | then-p-w w ↦ chain_on (le-leb _ _ w.if-p-w.true) w.room-is
  | else-p-w w ↦ chain_broken _ (lt-leb _ _ w.if-p-w.false) w.room-is
]

pub compute_extrapolated_fit-requires : goal.compute_extrapolated_fit-requires
compute_extrapolated_fit-requires c =
    let d = (goal.at.compute_extrapolated_fit-requires c).After-admit in
    let a = admits _ _ _ (sym c.in_ok-x.ensures.fault) in
    let q = and_both _ _ (sym (room d) ∙ a.roomy) in
    let s = and_both _ _ (sym (fits d) ∙ a.fit) in
    rw c.in_ok-x.ensures.design (each_below _ _ s.1, leb-true _ _ q.0, leb-true _ _ q.1)

pub returns-in_err-x : goal.returns-in_err-x
unfolding extrapolated_fault extrapolated_fit
returns-in_err-x c =
    let d = (goal.at.returns-in_err-x c).After-admit in
    rw (handed_on _ c.from_residual.ensures.1, ← fits d, ← room d, ← c.in_err-x.ensures.fault) (refl, refl)

pub returns : goal.returns
unfolding extrapolated_fault extrapolated_fit
returns c =
    let d = (goal.at.returns c).After-admit in
    rw (← fits d, ← room d, ← c.in_ok-x.ensures.fault, c.compute_extrapolated_fit.ensures, c.in_ok-x.ensures.design) (refl, refl)
