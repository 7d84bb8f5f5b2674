-- `finish_violations`: the invariant is that all features passed had finite numbers, their largest violation, and the violations in the gradients'
-- places. Assumes nothing.
use borrow.Author.Rules.{rules}
use mathlib.Core.Path.{refl}
use Prim.Native.Nat.{◌<◌}
use native.Mathlib.Omega.{arith}
use lib.Ieee.{nan}
use lib.ListN.{length}
use Rattle.doubles.proofs.Laws.Steps.{tab-none, tab_here, tab-more, tab-all}
use Rattle.visits.proofs.Laws.Violations.{broken_off, passed_none, passed_more, passed_value, of_place, finished-bad, finished-all}
use Rattle.visits.proofs.finish_violations.Goals as goal

pub loop-j-init : goal.loop-j-init
loop-j-init c = (tab-none _ _, passed_none)

pub returns-in_err-v : goal.returns-in_err-v
returns-in_err-v c =
    let inside : c.loop-j.j < length c.args.gradients.now = omega arith in
    let same = tab_here _ _ _ _ c.loop-j.invariant.0 nan inside in
    let there = of_place _ c.args.w.now c.args.gradients.now _ _ _ _ c.weight.ensures same c.in_err-v.ensures in
    rw (broken_off _ c.from_residual.ensures.1) (finished-bad _ _ _ c.loop-j.invariant.1 there inside)

pub loop-j-preserved : goal.loop-j-preserved
loop-j-preserved c =
    let inside : c.loop-j.j < length c.args.gradients.now = omega arith in
    let same = tab_here _ _ _ _ c.loop-j.invariant.0 nan inside in
    let there = of_place _ c.args.w.now c.args.gradients.now _ _ _ _ c.weight.ensures same c.in_ok-v.ensures in (
      tab-more _ _ _ _ c.loop-j.invariant.0 _ inside (passed_value c.loop-j.invariant.1 there),
      passed_more c.loop-j.invariant.1 there c.larger-largest.ensures,
    )

pub returns : goal.returns
returns c =
    let all = tab-all _ _ _ _ c.loop-j.invariant.0 _ refl (search rules) (search rules) in
    finished-all _ _ _ c.loop-j.invariant.1 _ all (search rules) (search rules)
