-- `pop`: the last feature sinks from the root in the places before the end. Assumes nothing.
use mathlib.Core.Path.{sym}
use Prim.Native.Nat.{◌-◌}
use lib.ListN.{length}
use Rattle.selection.proofs.Laws.Order.{features}
use Rattle.selection.proofs.Laws.Heap.{pop-inside, pop-end, pop-few, pop-long, pop-known, pop_heap, pop-same, pop_front, pop-ends, front_long}
use native.Mathlib.Omega.{arith}
use Rattle.selection.proofs.pop.Goals as goal

pub slice_bounds-sink-end : goal.slice_bounds-sink-end
slice_bounds-sink-end c =
    let two = c.requires.0 in
    let order = features c.args.kkt.now in
    let end = length c.args.kept.now - 1 in
    pop-end order end c.requires.2 c.requires.3 (omega arith) (omega arith)

pub slice_bounds-sink-end-2 : goal.slice_bounds-sink-end-2
slice_bounds-sink-end-2 c =
    let two = c.requires.0 in
    let order = features c.args.kkt.now in
    let end = length c.args.kept.now - 1 in
    sym (front_long order end c.requires.2 c.requires.3 (omega arith) (omega arith))

pub sink-requires : goal.sink-requires
sink-requires c =
    let two = c.requires.0 in
    let order = features c.args.kkt.now in
    let end = length c.args.kept.now - 1 in
    let known = c.requires.2 in
    let heap = c.requires.3 in (
      pop-inside order end known heap (omega arith) (omega arith),
      pop-few order end known heap (omega arith) (omega arith) 8192 c.requires.1,
      pop-known order end known heap (omega arith) (omega arith),
      known.each _ (omega arith),
      pop_heap order end known heap (omega arith) (omega arith),
    )

pub shape_of-kept : goal.shape_of-kept
shape_of-kept c =
    let two = c.requires.0 in
    let order = features c.args.kkt.now in
    let end = length c.args.kept.now - 1 in
    let sunk = c.sink in
    pop-long order end c.requires.2 c.requires.3 (omega arith) (omega arith) sunk.new.kept sunk.auto.kept

pub returns : goal.returns
returns c =
    let two = c.requires.0 in
    let order = features c.args.kkt.now in
    let end = length c.args.kept.now - 1 in
    let known = c.requires.2 in
    let heap = c.requires.3 in
    let sunk = c.sink in (
      pop_front order end known heap (omega arith) (omega arith) sunk.new.kept sunk.auto.kept sunk.ensures.1 sunk.ensures.0,
      pop-ends order end known heap (omega arith) (omega arith) sunk.new.kept sunk.auto.kept sunk.ensures.1,
      pop-same order end known heap (omega arith) (omega arith) sunk.new.kept sunk.auto.kept sunk.ensures.1,
    )
