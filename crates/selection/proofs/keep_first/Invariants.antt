-- `keep_first`: the invariant is that the places filled hold the features with zero weight passed. Assumes nothing.
use lib.ListN.{length}
use Rattle.selection.proofs.Laws.Select.{FirstAt}
use Rattle.selection.proofs.keep_first.Given as goal

abbrev pub invariant-loop-j : goal.invariant-loop-j
invariant-loop-j l = FirstAt l.w (length l.initial.kept) l.kept l.c l.j
