-- `sort`: the invariant is that the first c places are a heap, and what lies behind them is in order and behind them. Assumes nothing.
use Rattle.selection.specs.Inner.Heap.{ahead, Number}
use Rattle.selection.proofs.Laws.Heap.{SortAt}
use Rattle.selection.proofs.sort.Given as goal

abbrev pub invariant-loop-c : goal.invariant-loop-c
invariant-loop-c l = SortAt (ahead l.kkt) (Number l.kkt) l.initial.kept l.kept l.c
