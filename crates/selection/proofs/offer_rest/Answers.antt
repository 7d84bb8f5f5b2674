-- `offer_rest`: the invariant is that what is left over of the features passed stands behind what is kept. Assumes nothing.
use Prim.Native.Nat.{◌-◌}
use Rattle.selection.proofs.Laws.Select.{rest-none, rest-turn, rest_all}
use native.Mathlib.Omega.{arith}
use Rattle.selection.proofs.offer_rest.Goals as goal

pub loop-j-init : goal.loop-j-init
loop-j-init c = rest-none c.requires.2 c.requires.5 c.requires.4 c.requires.6 c.requires.7

pub loop-j-preserved : goal.loop-j-preserved
loop-j-preserved c =
    let offered = c.offer in
    let from = c.loop-j-test.true in
    let turn = rest-turn c.requires.2 c.requires.5 c.requires.0 c.loop-j.invariant (c.loop-j.j - 1) (omega arith) from in
    turn offered.new.kept offered.auto.kept offered.ensures.0 offered.ensures.1

pub returns : goal.returns
returns c = (c.loop-j.invariant.heap, rest_all c.loop-j.invariant c.loop-j-test.false)
