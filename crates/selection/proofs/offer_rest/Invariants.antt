-- `offer_rest`: the invariant is that what is left over of the features passed stands behind what is kept. Assumes nothing.
use Rattle.selection.proofs.Laws.Select.{RestAt}
use Rattle.selection.proofs.offer_rest.Given as goal

abbrev pub invariant-loop-j : goal.invariant-loop-j
invariant-loop-j l = RestAt l.kkt l.w l.from l.initial.kept l.kept l.j
