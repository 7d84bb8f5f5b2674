-- `check_sized`: the room, then the contents. Assumes nothing.
use mathlib.Core.Path.{sym}
use Rattle.doubles.proofs.Laws.Verdict.{handed_on}
use Rattle.designs.specs.Checks.{sized_fault}
use Rattle.designs.specs.Given.{handed}
use Rattle.designs.proofs.Laws.Passed.{sized, held}
use Rattle.designs.proofs.inner.check_sized.Goals as goal

pub returns-then-not-room-clause-fault : goal.returns-then-not-room-clause-fault
unfolding sized_fault
returns-then-not-room-clause-fault c = rw (c.at.ensures, c.if-not-room.true)

pub returns-in_err-check_contents-clause-fault : goal.returns-in_err-check_contents-clause-fault
unfolding sized_fault
returns-in_err-check_contents-clause-fault c =
    rw (handed_on _ c.from_residual.ensures.1, c.if-not-room.false) c.in_err-check_contents.ensures

pub vouched-requires : goal.vouched-requires
vouched-requires c =
    (c.requires, held (handed c.args.x.now c.args.y.now) _ (sized _ _ _ _ c.requires).agree (sym c.in_ok-check_contents.ensures))

pub returns-clause-fault : goal.returns-clause-fault
unfolding sized_fault
returns-clause-fault c = rw c.if-not-room.false c.in_ok-check_contents.ensures
