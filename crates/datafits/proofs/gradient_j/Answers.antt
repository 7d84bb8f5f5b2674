-- `gradient_j`: the tests, then the gradient. Assumes nothing.
use mathlib.Core.Path.{◌≡◌, sym, ◌∙◌}
use lib.Dec.{leb}
use lib.ListN.{length}
use borrow.Author.Tests.{leb-true, ltb-true}
use Rattle.doubles.specs.Num.{◌and◌}
use Rattle.doubles.proofs.Laws.Choice.{and_both}
use Rattle.doubles.proofs.Laws.Verdict.{handed_on}
use Rattle.designs.specs.Checks.{room_twice}
use Rattle.designs.proofs.Laws.Passed.{admits}
use Rattle.datafits.proofs.Laws.Calls.{chain_on, chain_broken}
use Rattle.datafits.specs.Calls.{gradient_fault, gradient_call}
use Rattle.datafits.proofs.gradient_j.Goals as goal
use Rattle.datafits.proofs.gradient_j.Goals.{After-admit, then-room_twice, else-room_twice}

-- the room, as the definition tests it
room : (c : After-admit) → c.if-room_twice.room ≡ room_twice c.args.x.now.shape.p c.args.prepared.now and leb c.args.x.now.shape.n (length c.args.fit.now)
room c = rw (← c.room_twice.ensures) (elim c.if-room_twice.branch [
  | then-room_twice w ↦ chain_on w.if-room_twice.true w.room-is
  | else-room_twice w ↦ chain_broken _ w.if-room_twice.false w.room-is
])

pub gradient_j-requires : goal.gradient_j-requires
gradient_j-requires c =
    let a = admits _ _ _ (sym c.in_ok-x.ensures.fault) in
    let q = and_both _ _ (sym (room (goal.at.gradient_j-requires c).After-admit) ∙ a.roomy) in
    rw c.in_ok-x.ensures.design (ltb-true _ _ a.fit, a.sized.few, leb-true _ _ q.0, leb-true _ _ q.1)

pub returns-in_err-x : goal.returns-in_err-x
unfolding gradient_fault gradient_call
returns-in_err-x c =
    rw (handed_on _ c.from_residual.ensures.1, ← room (goal.at.returns-in_err-x c).After-admit, ← c.in_err-x.ensures.fault)

pub returns : goal.returns
unfolding gradient_fault gradient_call
returns c =
    rw (← room (goal.at.returns c).After-admit, ← c.in_ok-x.ensures.fault, c.gradient_j.ensures, c.in_ok-x.ensures.design)
