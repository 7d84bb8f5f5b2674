-- `keep_first`: the invariant is that the places filled hold the features with zero weight passed. Assumes nothing.
use Rattle.selection.proofs.Laws.Select.{first-none, first-turn, first-all, first-end}
use native.Mathlib.Omega.{arith}
use native.Mathlib.Nat.{le_refl}
use Rattle.selection.proofs.keep_first.Goals as goal

pub loop-j-init : goal.loop-j-init
loop-j-init c = first-none c.args.w.now c.args.kept.now

pub returns-then-c-kept : goal.returns-then-c-kept
returns-then-c-kept c =
    let so_far = c.loop-j in
    let full = c.if-c-kept.true in
    let long = so_far.auto.kept in
    (so_far.invariant.most, first-all so_far.invariant (omega arith))

pub loop-j-preserved : goal.loop-j-preserved
loop-j-preserved c =
    let kept = c.keep-c in
    let so_far = c.loop-j in
    let few = so_far.invariant.few in
    let room = c.if-c-kept.false in
    let long = so_far.auto.kept in
    first-turn so_far.invariant (omega arith) c.loop-j-test.true kept.result kept.new.kept kept.ensures.0 kept.ensures.1 kept.auto.kept

pub returns : goal.returns
returns c = (le_refl _, first-end c.loop-j.invariant c.loop-j-test.false c.requires.1)
