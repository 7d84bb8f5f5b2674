-- `walk`: the tests, and where they find nothing, the walk on the first places of each slice, which the tests have shown to have its room. Assumes nothing.
use mathlib.Core.Path.{◌≡◌, refl, sym, ◌∙◌}
use native.Mathlib.Omega.{arith}
use borrow.Author.Tests.{eqb-true}
use Prim.Native.Nat.{◌≤◌}
use lib.ListN.{length}
use lib.Seq.{length-take-le}
use Rattle.doubles.specs.Num.{#0, ◌and◌}
use Rattle.doubles.specs.Answer.{none}
use Rattle.doubles.proofs.Laws.Buffer.{put_front}
use Rattle.doubles.proofs.Laws.Verdict.{handed_on}
use Rattle.designs.specs.Given.{Given, handed}
use Rattle.designs.specs.Checks.{targets_fit, room_twice}
use Rattle.designs.proofs.Laws.Passed.{Admitted}
use Rattle.definition.specs.Call.{settings_fault, Lent, lent, roomy, solve_tests}
use Rattle.definition.specs.Walk.{at_alpha, walk_tests}
use Rattle.definition.specs.declared.Settings.{Settings}
use Rattle.definition.proofs.Laws.Passed.{passed as passed_solve}
use Rattle.definition.proofs.Laws.Walk.{Passed, passed, solve-zero}
use Rattle.solvers.proofs.Laws.Calls.{buffers-left, Rooms, rooms}
use Rattle.walks.specs.Inner.Fits.{end_of, fit_passed}
use Rattle.walks.proofs.Laws.Fits.{left-refused, left-walk, walked_good}
use Rattle.walks.proofs.walk.Goals as goal
use Rattle.walks.proofs.walk.Goals.{Start}

-- ---- the places: what the call was given and lent, and the settings that were tested
abbrev problem : Start → Given
problem c = handed c.args.x.now c.args.y.now

abbrev buffers : Start → Lent
buffers c = let a = c.args in lent a.w.now a.fit.now a.indices.now a.scratch.now

abbrev tested : Start → Settings
tested c = at_alpha c.args.settings #0

-- ---- behind the tests, a solve with a good alpha would pass its own
abbrev Found : Start → Type 0
Found c = none ≡ walk_tests (problem c) c.args.settings c.args.alphas.now c.args.prepared.now (buffers c)

list-passed : (c : Start) → Found c → Passed (problem c) c.args.settings c.args.alphas.now c.args.prepared.now (buffers c)
list-passed c h = passed (problem c) c.args.settings c.args.alphas.now c.args.prepared.now (buffers c) (sym h)

solves : (c : Start) → Found c → solve_tests (problem c) (tested c) c.args.prepared.now (buffers c) ≡ none
solves c h = solve-zero _ c.args.settings _ _ _ (list-passed c h)

have : (c : Start) → (h : Found c) → Rooms (problem c) (tested c) c.args.prepared.now (buffers c) (solves c h)
have c h = rooms (problem c) (tested c) c.args.prepared.now (buffers c) (solves c h)

admitted : (c : Start) → Found c → let g = problem c in
    (settings_fault (tested c) ≡ none) × Admitted g (targets_fit g) (room_twice g.shape.p c.args.prepared.now and roomy g.shape (tested c) (buffers c))
admitted c h = passed_solve (problem c) (tested c) c.args.prepared.now (buffers c) (solves c h)

pub returns-in_err-tested : goal.returns-in_err-tested
returns-in_err-tested c =
    let start = (goal.at.returns-in_err-tested c).Start in
    let refused = left-refused (problem start) c.args.settings _ c.args.most _ (buffers start) in
    rw (handed_on _ c.from_residual.ensures.1) (refused _ _ c.in_err-tested.ensures.fault)

pub scratch_room-room-requires : goal.scratch_room-room-requires
scratch_room-room-requires c =
    let known = admitted (goal.at.scratch_room-room-requires c).Start c.in_ok-tested.ensures.fault in
    (known.1.sized.few, known.1.sized.narrow, rw c.at_alpha-good.ensures known.0)

pub overflow_add-shape : goal.overflow_add-shape
overflow_add-shape c =
    let narrow = (admitted (goal.at.overflow_add-shape c).Start c.in_ok-tested.ensures.fault).1.sized.narrow in
    omega (arith, narrow)

pub slice_bounds-walk_inside-end : goal.slice_bounds-walk_inside-end
slice_bounds-walk_inside-end c = (have (goal.at.slice_bounds-walk_inside-end c).Start c.in_ok-tested.ensures.fault).prepared

pub slice_bounds-walk_inside-end-2 : goal.slice_bounds-walk_inside-end-2
slice_bounds-walk_inside-end-2 c = sym (length-take-le _ _ (have (goal.at.slice_bounds-walk_inside-end-2 c).Start c.in_ok-tested.ensures.fault).prepared)

pub slice_bounds-walk_inside-end-3 : goal.slice_bounds-walk_inside-end-3
slice_bounds-walk_inside-end-3 c = (have (goal.at.slice_bounds-walk_inside-end-3 c).Start c.in_ok-tested.ensures.fault).weights

pub slice_bounds-walk_inside-end-4 : goal.slice_bounds-walk_inside-end-4
slice_bounds-walk_inside-end-4 c = sym (length-take-le _ _ (have (goal.at.slice_bounds-walk_inside-end-4 c).Start c.in_ok-tested.ensures.fault).weights)

pub slice_bounds-walk_inside-end-5 : goal.slice_bounds-walk_inside-end-5
slice_bounds-walk_inside-end-5 c = (have (goal.at.slice_bounds-walk_inside-end-5 c).Start c.in_ok-tested.ensures.fault).fit

pub slice_bounds-walk_inside-end-6 : goal.slice_bounds-walk_inside-end-6
slice_bounds-walk_inside-end-6 c = sym (length-take-le _ _ (have (goal.at.slice_bounds-walk_inside-end-6 c).Start c.in_ok-tested.ensures.fault).fit)

pub slice_bounds-walk_inside-end-7 : goal.slice_bounds-walk_inside-end-7
slice_bounds-walk_inside-end-7 c = (have (goal.at.slice_bounds-walk_inside-end-7 c).Start c.in_ok-tested.ensures.fault).indices

pub slice_bounds-walk_inside-end-8 : goal.slice_bounds-walk_inside-end-8
slice_bounds-walk_inside-end-8 c = sym (length-take-le _ _ (have (goal.at.slice_bounds-walk_inside-end-8 c).Start c.in_ok-tested.ensures.fault).indices)

pub slice_bounds-walk_inside-end-9 : goal.slice_bounds-walk_inside-end-9
slice_bounds-walk_inside-end-9 c =
    let room = (have (goal.at.slice_bounds-walk_inside-end-9 c).Start c.in_ok-tested.ensures.fault).scratch in
    rw (c.scratch_room-room.ensures, c.at_alpha-good.ensures) room

pub slice_bounds-walk_inside-end-10 : goal.slice_bounds-walk_inside-end-10
slice_bounds-walk_inside-end-10 c =
    let room = (have (goal.at.slice_bounds-walk_inside-end-10 c).Start c.in_ok-tested.ensures.fault).scratch in
    sym (length-take-le _ _ (rw (c.scratch_room-room.ensures, c.at_alpha-good.ensures) room))

pub walk_inside-requires : goal.walk_inside-requires
walk_inside-requires c =
    let start = (goal.at.walk_inside-requires c).Start in
    let known = admitted start c.in_ok-tested.ensures.fault in
    let room = have start c.in_ok-tested.ensures.fault in
    let scratch : c.scratch_room-room.result ≤ length c.args.scratch.now = rw (c.scratch_room-room.ensures, c.at_alpha-good.ensures) room.scratch in
    rw c.in_ok-tested.ensures.design (
      known.1.sized.few,
      known.1.sized.narrow,
      eqb-true _ _ known.1.fit,
      length-take-le _ _ room.prepared,
      rw c.at_alpha-good.ensures known.0,
      length-take-le _ _ room.weights,
      length-take-le _ _ room.fit,
      length-take-le _ _ room.indices,
      length-take-le _ _ scratch ∙ c.scratch_room-room.ensures,
      (list-passed start c.in_ok-tested.ensures.fault).list,
    )

pub returns : goal.returns
returns c =
    let start = (goal.at.returns c).Start in
    let g = problem start in
    let S = c.args.settings in
    let alphas = c.args.alphas.now in
    let run = rw c.in_ok-tested.ensures.design at c.walk_inside.ensures in
    let walked = walked_good g S alphas #0 c.args.most _ c.at_alpha-good.ensures _ _ _ _ _ (run.0, run.1) in
    let room = have start c.in_ok-tested.ensures.fault in
    let last = c.walk_inside.new in
    let kept = c.walk_inside.auto in
    let shape = c.args.x.now.shape in
    let long : c.scratch_room-room.result ≤ length c.args.scratch.now = rw (c.scratch_room-room.ensures, c.at_alpha-good.ensures) room.scratch in
    let numbers = put_front c.args.prepared.now _ last.prepared _ room.prepared kept.prepared run.2 in
    let weights = put_front c.args.w.now shape.p last.w _ room.weights kept.w refl in
    let fit = put_front c.args.fit.now shape.n last.fit _ room.fit kept.fit refl in
    let indices = put_front c.args.indices.now shape.p last.indices _ room.indices kept.indices refl in
    let scratch = put_front c.args.scratch.now _ last.scratch _ long kept.scratch refl in
    let end = end_of S c.args.most (fit_passed g S alphas) (length alphas) in
    let holds = walked.1 in
    let left = buffers-left shape S (buffers start) end _ _ _ _ _ _ _ _ holds.leaves holds.indices holds.scratch in
    let behind = left-walk g S alphas c.args.prepared.now (buffers start) (sym c.in_ok-tested.ensures.fault) c.args.most in
    behind _ _ _ walked.0 (left weights fit indices scratch) numbers
