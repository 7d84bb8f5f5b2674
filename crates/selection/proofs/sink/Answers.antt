-- `sink`: the invariant is that all but the place of x is a heap, and that x may stand below what is above it. Assumes nothing.
use Rattle.selection.proofs.Laws.Heap.{sunk_none, sunk_inside, sunk_few, sunk_less, sunk_known, sunk_turn, sunk_all}
use borrow.Author.Rules.{rules}
use Rattle.selection.proofs.sink.Goals as goal

pub below-next-requires : goal.below-next-requires
below-next-requires c = (c.requires.0, c.requires.1, c.requires.2, c.requires.3)

pub loop-k-init : goal.loop-k-init
loop-k-init c =
    sunk_none c.requires.0 c.requires.2 c.requires.4 c.below-next.ensures

pub offset_bounds-kept-next : goal.offset_bounds-kept-next
offset_bounds-kept-next c = let h = sunk_inside c.loop-k.invariant c.loop-k-test.true in search rules

pub bounds-kept-next : goal.bounds-kept-next
bounds-kept-next c = sunk_inside c.loop-k.invariant c.loop-k-test.true

pub below-next-requires-in-loop-k : goal.below-next-requires-in-loop-k
below-next-requires-in-loop-k c =
    let inv = c.loop-k.invariant in
    let taken = c.loop-k-test.true in
    (let h = sunk_inside inv taken in search rules, sunk_few inv taken 8192 c.requires.1, sunk_known inv taken, c.requires.3)

pub loop-k-smaller : goal.loop-k-smaller
loop-k-smaller c = sunk_less c.loop-k.invariant c.loop-k-test.true

pub loop-k-preserved : goal.loop-k-preserved
loop-k-preserved c =
    sunk_turn c.loop-k.invariant c.loop-k-test.true c.below-next-in-loop-k.result c.below-next-in-loop-k.ensures

pub returns : goal.returns
returns c = sunk_all c.loop-k.invariant c.loop-k-test.false
