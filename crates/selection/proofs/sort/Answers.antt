-- `sort`: the invariant is that the first c places are a heap, and what lies behind them is in order and behind them. Assumes nothing.
use Rattle.selection.proofs.Laws.Heap.{sorted_none, sorted_known, sorted_turn, sorted_all, front_c}
use native.Mathlib.Omega.{arith}
use Rattle.selection.proofs.sort.Goals as goal

pub loop-c-init : goal.loop-c-init
loop-c-init c = sorted_none c.requires.1 c.requires.2

pub pop-requires : goal.pop-requires
pop-requires c =
    let inv = c.loop-c.invariant in
    let long = front_c c.loop-c.invariant in
    let two = c.loop-c-test.true in
    let room = c.requires.0 in
    (omega arith, omega arith, sorted_known inv, inv.heap)

pub loop-c-preserved : goal.loop-c-preserved
loop-c-preserved c =
    let popped = c.pop in
    let two = c.loop-c-test.true in
    sorted_turn c.loop-c.invariant (omega arith) popped.new.kept popped.auto.kept
    popped.ensures.0 popped.ensures.1 popped.ensures.2

pub returns : goal.returns
returns c = sorted_all c.loop-c.invariant (let two = c.loop-c-test.false in omega arith)
