-- `sink`: the invariant is that all but the place of x is a heap, and that x may stand below what is above it. Assumes nothing.
use Prim.Native.Nat.{◌-◌}
use lib.ListN.{length}
use Rattle.selection.specs.Inner.Heap.{ahead, Number}
use Rattle.selection.proofs.Laws.Heap.{SinkAt}
use Rattle.selection.proofs.sink.Given as goal

abbrev pub invariant-loop-k : goal.invariant-loop-k
invariant-loop-k l = SinkAt (ahead l.kkt) (Number l.kkt) l.at l.x l.initial.kept l.kept l.k l.next

abbrev pub decreases-loop-k : goal.decreases-loop-k
decreases-loop-k l = length l.kept - l.k
