-- `full_grad`: the tests, then all gradients. Assumes nothing.
use mathlib.Core.Path.{◌≡◌, refl, sym, ◌∙◌}
use lib.Dec.{leb}
use lib.ListN.{length}
use borrow.Author.Tests.{leb-true, le-leb, lt-leb}
use Rattle.doubles.specs.Num.{◌and◌}
use Rattle.doubles.proofs.Laws.Choice.{and_both}
use Rattle.doubles.proofs.Laws.Verdict.{handed_on}
use Rattle.designs.specs.Checks.{room_twice}
use Rattle.designs.proofs.Laws.Passed.{admits}
use Rattle.datafits.proofs.Laws.Calls.{chain_on, chain_broken}
use Rattle.datafits.specs.Calls.{full_grad_fault, full_grad}
use Rattle.datafits.proofs.full_grad.Goals as goal
use Rattle.datafits.proofs.full_grad.Goals.{After-admit, then-n-fit, else-n-fit, then-room_twice, else-room_twice}

-- the lent buffers, and then the room, as the definition tests them
buffers : (c : After-admit) → c.if-n-fit.buffers ≡ leb c.args.x.now.shape.n (length c.args.fit.now) and leb c.args.x.now.shape.p (length c.args.grad.now)
buffers c = elim c.if-n-fit.branch [
  | then-n-fit w ↦ chain_on (le-leb _ _ w.if-n-fit.true) w.buffers-is
  | else-n-fit w ↦ chain_broken _ (lt-leb _ _ w.if-n-fit.false) w.buffers-is
]

room : (c : After-admit) → c.if-room_twice.room ≡ room_twice c.args.x.now.shape.p c.args.prepared.now
    and leb c.args.x.now.shape.n (length c.args.fit.now) and leb c.args.x.now.shape.p (length c.args.grad.now)
room c = rw (← c.room_twice.ensures, ← buffers c) (elim c.if-room_twice.branch [
  | then-room_twice w ↦ chain_on w.if-room_twice.true w.room-is
  | else-room_twice w ↦ chain_broken _ w.if-room_twice.false w.room-is
])

pub full_grad-requires : goal.full_grad-requires
full_grad-requires c =
    let a = admits _ _ _ (sym c.in_ok-x.ensures.fault) in
    let q = and_both _ _ (sym (room (goal.at.full_grad-requires c).After-admit) ∙ a.roomy) in
    let s = and_both _ _ q.1 in
    rw c.in_ok-x.ensures.design (a.sized.few, leb-true _ _ q.0, leb-true _ _ s.0, leb-true _ _ s.1)

pub returns-in_err-x : goal.returns-in_err-x
unfolding full_grad_fault full_grad
returns-in_err-x c =
    rw (handed_on _ c.from_residual.ensures.1, ← room (goal.at.returns-in_err-x c).After-admit, ← c.in_err-x.ensures.fault) (refl, refl)

pub returns : goal.returns
unfolding full_grad_fault full_grad
returns c =
    rw (← room (goal.at.returns c).After-admit, ← c.in_ok-x.ensures.fault, c.full_grad.ensures, c.in_ok-x.ensures.design) (refl, refl)
