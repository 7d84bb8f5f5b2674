-- `check_solve`: the sizes and the settings, then the room and what is given, then the prepared numbers. Assumes nothing.
use mathlib.Core.Path.{sym}
use Rattle.doubles.proofs.Laws.Choice.{and_both}
use Rattle.doubles.proofs.Laws.Verdict.{handed_on}
use Rattle.designs.specs.Given.{Given, handed}
use Rattle.designs.proofs.Laws.Passed.{sized}
use Rattle.definition.specs.Call.{Lent, lent}
use Rattle.definition.proofs.Laws.Passed.{early}
use Rattle.solvers.proofs.Laws.Calls.{refused_early, refused_sized, numbers-room, handed_last}
use Rattle.solvers.proofs.check_solve.Goals as goal
use Rattle.solvers.proofs.check_solve.Goals.{Start}

abbrev given : Start → Given
given c = handed c.args.x.now c.args.y.now

abbrev buffers : Start → Lent
buffers c = let a = c.args in lent a.w.now a.fit.now a.indices.now a.scratch.now

pub returns-in_err-check_early-clause-fault : goal.returns-in_err-check_early-clause-fault
returns-in_err-check_early-clause-fault c =
    let start = (goal.at.returns-in_err-check_early-clause-fault c).Start in
    rw (handed_on _ c.from_residual.ensures.1) (refused_early (given start) c.args.settings _ (buffers start) _ _ c.in_err-check_early.ensures)

pub has_room-room-requires : goal.has_room-room-requires
has_room-room-requires c =
    let passed = early (given (goal.at.has_room-room-requires c).Start) c.args.settings (sym c.in_ok-check_early.ensures) in
    let sizes = sized _ _ _ _ (and_both _ _ passed.0).0 in
    (sizes.few, sizes.narrow, passed.1)

pub check_sized-requires : goal.check_sized-requires
check_sized-requires c =
    let passed = early (given (goal.at.check_sized-requires c).Start) c.args.settings (sym c.in_ok-check_early.ensures) in
    (and_both _ _ passed.0).0

pub returns-in_err-tested-clause-fault : goal.returns-in_err-tested-clause-fault
returns-in_err-tested-clause-fault c =
    let start = (goal.at.returns-in_err-tested-clause-fault c).Start in
    let refused = refused_sized (given start) c.args.settings _ (buffers start) c.in_ok-check_early.ensures _ c.has_room-room.ensures in
    rw (handed_on _ c.from_residual-in_err-tested.ensures.1) (refused _ _ c.in_err-tested.ensures.fault)

pub check_handed-requires : goal.check_handed-requires
check_handed-requires c =
    let start = (goal.at.check_handed-requires c).Start in
    let passed = early (given start) c.args.settings (sym c.in_ok-check_early.ensures) in
    let sizes = sized _ _ _ _ (and_both _ _ passed.0).0 in
    let room = numbers-room (given start) c.args.settings _ (buffers start) c.in_ok-check_early.ensures _ c.has_room-room.ensures in
    (sizes.narrow, room c.in_ok-tested.ensures.fault)

pub returns-in_err-check_handed-clause-fault : goal.returns-in_err-check_handed-clause-fault
returns-in_err-check_handed-clause-fault c =
    let start = (goal.at.returns-in_err-check_handed-clause-fault c).Start in
    let last = handed_last (given start) c.args.settings _ (buffers start) c.in_ok-check_early.ensures _ c.has_room-room.ensures in
    rw (handed_on _ c.from_residual-in_err-check_handed.ensures.1) (last c.in_ok-tested.ensures.fault _ c.in_err-check_handed.ensures)

pub returns-clause-fault : goal.returns-clause-fault
returns-clause-fault c =
    let start = (goal.at.returns-clause-fault c).Start in
    let last = handed_last (given start) c.args.settings _ (buffers start) c.in_ok-check_early.ensures _ c.has_room-room.ensures in
    last c.in_ok-tested.ensures.fault _ c.in_ok-check_handed.ensures
