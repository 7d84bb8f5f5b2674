-- `heapify`: the invariant is that the places from k on are a heap. Assumes nothing.
use Rattle.selection.specs.Inner.Heap.{ahead}
use Rattle.selection.proofs.Laws.Heap.{heaped_none, heaped_next, heaped_good, heaped_turn, heaped_all}
use borrow.Author.Rules.{rules}
use Rattle.selection.proofs.heapify.Goals as goal

pub loop-k-init : goal.loop-k-init
loop-k-init c = heaped_none (ahead c.args.kkt.now) c.requires.1

pub sink-requires : goal.sink-requires
sink-requires c =
    let inv = c.loop-k.invariant in
    let some = c.loop-k-test.true in
    (search rules, search rules, inv.known, heaped_good inv some, heaped_next inv some)

pub loop-k-preserved : goal.loop-k-preserved
loop-k-preserved c =
    let sunk = c.sink in
    heaped_turn c.loop-k.invariant c.loop-k-test.true sunk.new.kept sunk.auto.kept sunk.ensures.0 sunk.ensures.1

pub returns : goal.returns
returns c = heaped_all c.loop-k.invariant c.loop-k-test.false
