-- `accelerate`: with extrapolation on, what the step left; else the point stays. Assumes nothing.
use mathlib.Core.Path.{sym, ◌∙◌}
use Prim.Native.Nat.{◌≤◌}
use native.Mathlib.Nat.{le_refl}
use native.Mathlib.Omega.{arith}
use Rattle.epochs.proofs.Laws.Epochs.{taken-few, accelerated_on, accelerated_off}
use Rattle.epochs.proofs.Laws.Ready.{step_ready, tried_same, kept-same, kept_then_same}
use Rattle.epochs.proofs.accelerate.Goals as goal
use Rattle.epochs.proofs.accelerate.Goals.{After-anderson_accel-taken}

-- a step takes one point at most
few : (c : After-anderson_accel-taken) → c.anderson_accel-taken.result ≤ 1
few c = taken-few _ _ _ _ _ _ _ _ _ _ (c.anderson_accel-taken.ensures.0 c.args.problem.now.prepared.now)

pub returns-then-not-problem : goal.returns-then-not-problem
returns-then-not-problem c = (accelerated_off c.args.problem.now _ _ _ _ _ _ c.if-not-problem.true, le_refl _, omega arith)

pub anderson_accel-taken-requires : goal.anderson_accel-taken-requires
anderson_accel-taken-requires c = step_ready c.requires.0 _ c.step_of.ensures c.requires.1 c.if-not-problem.false

pub overflow_add-result : goal.overflow_add-result
overflow_add-result c =
    omega (arith, few (goal.at.overflow_add-result c).After-anderson_accel-taken, c.requires.2.extrapolations)

pub returns : goal.returns
returns c =
    let taken = few (goal.at.returns c).After-anderson_accel-taken in
    let P = c.args.problem.now in
    let s = c.step_of.result in
    let h = c.step_of.ensures in
    let step = c.anderson_accel-taken.ensures in
    let tried = step.0 P.prepared.now ∙ tried_same s P h _ _ _ _ _ in
    let kept = sym (kept-same s P h _) ∙ step.1 ∙ kept_then_same s P h _ _ _ _ in
    (accelerated_on P _ _ _ _ _ _ _ _ _ _ c.if-not-problem.false (tried, kept), le_refl _, omega arith)
