-- `heapify`: the invariant is that the places from k on are a heap. Assumes nothing.
use Rattle.selection.specs.Inner.Heap.{ahead, Number}
use Rattle.selection.proofs.Laws.Heap.{HeapAt}
use Rattle.selection.proofs.heapify.Given as goal

abbrev pub invariant-loop-k : goal.invariant-loop-k
invariant-loop-k l = HeapAt (ahead l.kkt) (Number l.kkt) l.initial.kept l.kept l.k
