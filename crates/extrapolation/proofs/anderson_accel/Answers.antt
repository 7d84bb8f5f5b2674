-- `anderson_accel`: the row is kept, and where it is the last, the step is tried. Assumes nothing.
use mathlib.Core.Path.{◌≡◌}
use mathlib.Core.List.{List, []}
use lib.Ieee.{Float}
use native.Mathlib.Omega.{arith}
use Rattle.definition.specs.Extrapolation.{kept_now}
use Rattle.extrapolation.specs.Inner.Places.{task_with}
use Rattle.extrapolation.specs.Inner.Places.{kept_in}
use Rattle.extrapolation.proofs.Laws.Scratch.{row_small, row_room}
use Rattle.extrapolation.proofs.Laws.Tries.{not_last, ready_again}
use Prim.Native.Nat.{◌-◌}
use Rattle.extrapolation.proofs.Laws.Step.{row-left, step-tried}
use borrow.Rule.Slice.PartMut.{put_mid, same_len_mid}
use Rattle.extrapolation.proofs.anderson_accel.Goals as goal
use Rattle.extrapolation.proofs.anderson_accel.Goals.{After-keep}

-- the scratch once the row is kept
abbrev scratch : After-keep → List Float
scratch c =
    let parts = c.lay_out-at.result in
    put_mid parts.kept (parts.until - parts.kept) c.args.scratch.now c.keep.new.kept

-- its rows are those of the definition
row : (c : After-keep) → let a = c.args in let P = a.step.now in
    kept_in P.x.matrix.shape P.depth (scratch c)
    ≡ kept_now P.depth P.x.matrix.shape.p a.e a.ws.now a.w.now (kept_in P.x.matrix.shape P.depth a.scratch.now)
row c = row-left c.args.step.now _ _ _ _ _ _ _ _ _ _ _ c.requires c.lay_out-at.ensures c.keep.auto.kept c.keep.ensures

pub overflow_add-row : goal.overflow_add-row
overflow_add-row c = omega (arith, c.args.step.now.shallow)

pub overflow_mul-row : goal.overflow_mul-row
overflow_mul-row c =
    let h = row_small c.args.e _ _ (c.args.step.now.shallow) c.args.step.now.features in
    omega arith

pub keep-requires : goal.keep-requires
keep-requires c =
    let P = c.args.step.now in
    let sized = c.requires.sized in
    let parts = c.lay_out-at.ensures in (
      λ k h. rw sized.weights (sized.below k h),
      row_room P.x.matrix.shape P.depth c.args.scratch.now _ _ c.args.e parts.0 parts.1 sized.room _ sized.few,
    )

pub returns-then-row-depth : goal.returns-then-row-depth
returns-then-row-depth c =
    (λ q. not_last (task_with c.args.step.now q) _ _ _ _ _ _ c.if-row-depth.true, row (goal.at.returns-then-row-depth c).After-keep)

pub extrapolate-requires : goal.extrapolate-requires
extrapolate-requires c =
    let parts = c.lay_out-at.result in
    let same = same_len_mid parts.kept (parts.until - parts.kept) c.args.scratch.now c.keep.new.kept in
    ready_again _ c.requires (same c.keep.auto.kept)

pub returns : goal.returns
returns c =
    let last = row (goal.at.returns c).After-keep in
    let steps = c.extrapolate.ensures in
    let tried = λ (q : List Float). step-tried c.args.step.now q _ _ _ _ _ _ _ last c.if-row-depth.false (steps.0 q, steps.1) in
    (λ q. (tried q).0, (tried []).1)
