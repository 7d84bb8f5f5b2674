-- `check_walk`: the sizes and the settings, then the list, then the room and what is given. Assumes nothing.
use mathlib.Core.Path.{sym}
use Rattle.doubles.proofs.Laws.Choice.{and_both}
use Rattle.doubles.proofs.Laws.Verdict.{handed_on}
use Rattle.designs.specs.Given.{Given, handed}
use Rattle.designs.proofs.Laws.Passed.{sized}
use Rattle.definition.specs.Call.{Lent, lent}
use Rattle.definition.proofs.Laws.Passed.{early}
use Rattle.walks.proofs.Laws.Tests.{refused_early, refused_list, tested_rest}
use Rattle.walks.proofs.check_walk.Goals as goal
use Rattle.walks.proofs.check_walk.Goals.{Start}

abbrev given : Start → Given
given c = handed c.args.x.now c.args.y.now

abbrev buffers : Start → Lent
buffers c = let a = c.args in lent a.w.now a.fit.now a.indices.now a.scratch.now

pub returns-in_err-check_early-clause-fault : goal.returns-in_err-check_early-clause-fault
returns-in_err-check_early-clause-fault c =
    let start = (goal.at.returns-in_err-check_early-clause-fault c).Start in
    let refused = refused_early (given start) c.args.settings _ _ (buffers start) _ c.at_alpha-good.ensures in
    rw (handed_on _ c.from_residual.ensures.1) (refused _ _ c.in_err-check_early.ensures)

pub returns-in_err-check_list-clause-fault : goal.returns-in_err-check_list-clause-fault
returns-in_err-check_list-clause-fault c =
    let start = (goal.at.returns-in_err-check_list-clause-fault c).Start in
    let refused = refused_list (given start) c.args.settings _ _ (buffers start) _ c.at_alpha-good.ensures c.in_ok-check_early.ensures in
    rw (handed_on _ c.from_residual-in_err-check_list.ensures.1) (refused _ _ c.in_err-check_list.ensures)

pub has_room-room-requires : goal.has_room-room-requires
has_room-room-requires c =
    let passed = early (given (goal.at.has_room-room-requires c).Start) _ (sym c.in_ok-check_early.ensures) in
    let sizes = sized _ _ _ _ (and_both _ _ passed.0).0 in
    (sizes.few, sizes.narrow, passed.1)

pub check_sized-requires : goal.check_sized-requires
check_sized-requires c =
    let passed = early (given (goal.at.check_sized-requires c).Start) _ (sym c.in_ok-check_early.ensures) in
    (and_both _ _ passed.0).0

pub returns-clause-fault : goal.returns-clause-fault
returns-clause-fault c =
    let start = (goal.at.returns-clause-fault c).Start in
    let rest = tested_rest (given start) c.args.settings _ _ (buffers start) _ c.at_alpha-good.ensures c.in_ok-check_early.ensures in
    rest c.in_ok-check_list.ensures _ c.has_room-room.ensures _ c.check_sized.ensures.fault
