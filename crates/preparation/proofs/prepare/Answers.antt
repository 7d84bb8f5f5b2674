-- `prepare`: `initialize` tests and fills, and then the columns are tested. Assumes nothing.
use Rattle.doubles.proofs.Laws.Verdict.{handed_on}
use Rattle.preparation.proofs.Laws.Settled.{left-refused, small, still_room, left-settled}
use Rattle.preparation.proofs.prepare.Goals as goal

pub settle-requires : goal.settle-requires
settle-requires c =
    let e = c.initialize.ensures in
    (small _ _ _ _ e.0 e.1 c.in_ok-initialize.was, still_room _ _ _ _ e.0 e.1 c.in_ok-initialize.was)

pub returns-in_err-initialize : goal.returns-in_err-initialize
returns-in_err-initialize c =
    let e = c.initialize.ensures in
    rw (handed_on _ c.from_residual.ensures.1) (left-refused _ _ _ _ e.0 e.1 _ c.in_err-initialize.was)

pub returns : goal.returns
returns c =
    let e = c.initialize.ensures in
    left-settled _ _ _ _ e.0 e.1 c.in_ok-initialize.was c.settle.result _ c.settle.ensures
