-- `lay_out`: places by products of small numbers. Assumes nothing.
use mathlib.Core.Path.{refl}
use Prim.Native.Nat.{◌+◌, ◌*◌, ◌≤◌}
use native.Mathlib.Numerals.{add-one}
use native.Mathlib.Omega.{arith}
use Rattle.extrapolation.proofs.Laws.Scratch.{places_small, rows_small}
use Rattle.extrapolation.proofs.lay_out.Goals as goal
use Rattle.extrapolation.proofs.lay_out.Goals.{Start}

-- the depth is small, and so are the places
small : (c : Start) → c.args.step.now.depth ≤ 10
small c = c.args.step.now.shallow

places : (c : Start) → let P = c.args.step.now in (2 * P.depth + 2) * P.x.matrix.shape.p ≤ 180224
places c = places_small _ _ (small c) c.args.step.now.features

rows : (c : Start) → let P = c.args.step.now in (P.depth + 1) * P.x.matrix.shape.p ≤ 90112
rows c = rows_small _ _ (small c) c.args.step.now.features

pub overflow_mul-old : goal.overflow_mul-old
overflow_mul-old c = omega (arith, small (goal.at.overflow_mul-old c).Start)

pub overflow_add-old : goal.overflow_add-old
overflow_add-old c = omega (arith, small (goal.at.overflow_add-old c).Start)

pub overflow_mul-old-2 : goal.overflow_mul-old-2
overflow_mul-old-2 c = omega (arith, places (goal.at.overflow_mul-old-2 c).Start)

pub overflow_add-fit : goal.overflow_add-fit
overflow_add-fit c = omega (arith, places (goal.at.overflow_add-fit c).Start, c.args.step.now.features)

pub overflow_add-result : goal.overflow_add-result
overflow_add-result c = omega (arith, small (goal.at.overflow_add-result c).Start)

pub overflow_mul-result : goal.overflow_mul-result
overflow_mul-result c = omega (arith, rows (goal.at.overflow_mul-result c).Start)

pub overflow_add-result-2 : goal.overflow_add-result-2
overflow_add-result-2 c = omega (arith, rows (goal.at.overflow_add-result-2 c).Start, c.args.step.now.features)

pub overflow_add-result-3 : goal.overflow_add-result-3
overflow_add-result-3 c =
    omega (arith, places (goal.at.overflow_add-result-3 c).Start, c.args.step.now.features, c.args.step.now.samples)

pub returns : goal.returns
returns c = (refl, rw add-one, refl, refl, refl)
