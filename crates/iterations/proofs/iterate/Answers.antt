-- `iterate`: the set is built in the index places, and its epochs are run. Assumes nothing.
use mathlib.Core.Path.{◌≡◌, sym, ◌∙◌}
use Prim.Native.Nat.{◌≤◌}
use native.Mathlib.Omega.{arith}
use native.Mathlib.Nat.{le_of_eq, le_trans}
use lib.ListN.{length, take}
use lib.Seq.{length-take-le}
use Rattle.definition.specs.Inner.Problem.{task_in}
use Rattle.definition.specs.Run.{chosen_set}
use Rattle.extrapolation.specs.Inner.Places.{point_with}
use Rattle.visits.proofs.Laws.Violations.{broken_off}
use Rattle.epochs.proofs.Laws.Ready.{room_for}
use Rattle.iterations.proofs.Laws.Turns.{start_most, set_built, set_most, set-features, set-chosen, numbers-known}
use Rattle.iterations.proofs.Laws.Turns.{iterated_well, shown_bad, grown-none}
use Rattle.iterations.proofs.iterate.Goals as goal
use Rattle.iterations.proofs.iterate.Goals.{After-construct_ws-many, After-start_size-start, in-Going, in-Going-2}

-- ---- what is known there: the start size is at most the number of weights
few : (c : After-start_size-start) → c.start_size-start.result ≤ length c.args.w.now
few c = start_most _ _ _ _ c.start_size-start.ensures c.requires.0.weights

-- the set lies in the index places
inside : (c : After-construct_ws-many) → c.construct_ws-many.result ≤ length c.construct_ws-many.new.indices
inside c =
    let places = c.construct_ws-many.auto.indices ∙ c.requires.1 in
    let most = set_most _ _ _ (start_most _ _ _ _ c.start_size-start.ensures c.requires.0.weights) _ _ c.construct_ws-many.ensures.0
    c.construct_ws-many.ensures.1 in
    le_trans most (le_of_eq (c.requires.0.weights ∙ sym places))

-- it is the one that the definition chooses
chosen : (c : After-construct_ws-many) → let P = c.args.problem.now in
    take c.construct_ws-many.result c.construct_ws-many.new.indices ≡ chosen_set (task_in P) P.settings (point_with c.args.w.now c.args.fit.now)
chosen c =
    let made = set_built _ _ _ (start_most _ _ _ _ c.start_size-start.ensures c.requires.0.weights) _ _ c.construct_ws-many.ensures.0
    c.construct_ws-many.ensures.1 in
    set-chosen (task_in c.args.problem.now) _ _ _ _ _ _ c.start_size-start.ensures c.requires.3 made

pub slice_bounds-construct_ws-end : goal.slice_bounds-construct_ws-end
slice_bounds-construct_ws-end c = room_for c.requires.0

pub slice_bounds-construct_ws-end-2 : goal.slice_bounds-construct_ws-end-2
slice_bounds-construct_ws-end-2 c = sym (length-take-le _ _ (room_for c.requires.0))

pub construct_ws-many-requires : goal.construct_ws-many-requires
construct_ws-many-requires c =
    let ready = c.requires.0 in (
      length-take-le _ _ (room_for ready) ∙ sym ready.weights,
      le_trans (le_of_eq ready.weights) c.args.problem.now.narrow,
      few (goal.at.construct_ws-many-requires c).After-start_size-start,
      c.requires.1 ∙ sym ready.weights,
      numbers-known (task_in c.args.problem.now) _ _ _ c.requires.3 c.requires.4 ready.weights,
    )

pub slice_bounds-ws-end : goal.slice_bounds-ws-end
slice_bounds-ws-end c = inside (goal.at.slice_bounds-ws-end c).After-construct_ws-many

pub slice_bounds-ws-end-2 : goal.slice_bounds-ws-end-2
slice_bounds-ws-end-2 c = sym (length-take-le _ _ (inside (goal.at.slice_bounds-ws-end-2 c).After-construct_ws-many))

pub run_epochs-requires : goal.run_epochs-requires
run_epochs-requires c =
    let built = c.construct_ws-many.ensures in
    let epochs = c.requires.2.counts.epochs in
    let extrapolations = c.requires.2.counts.extrapolations in (
      c.requires.0,
      set-features _ _ _ (few (goal.at.run_epochs-requires c).After-start_size-start) _ _ built.0 built.1 _ c.requires.0.weights,
      record { epochs = omega arith; extrapolations = omega arith },
    )

pub returns-in_err-counts : goal.returns-in_err-counts
returns-in_err-counts c =
    let there = (goal.at.returns-in_err-counts c).After-construct_ws-many in
    let left = c.run_epochs.new in
    let broken = shown_bad _ _ _ _ _ _ _ _ _ (chosen there) _ left.w left.fit _ c.run_epochs.ensures _ c.in_err-counts.was in
    rw (broken_off _ c.from_residual.ensures.1) (broken, grown-none _)

pub returns : goal.returns
returns c =
    let there = (goal.at.returns c).After-construct_ws-many in
    let left = c.run_epochs.new in
    let well = iterated_well _ _ _ _ _ _ _ _ _ (chosen there) _ left.w left.fit _ c.run_epochs.ensures _ c.in_ok-counts.was in
    elim c.match-branch-2.branch [ in-Going w ↦ well _ _ w.counts-is w.in-Going.is | in-Going-2 w ↦ well _ _ w.counts-is w.in-Going.is ]
