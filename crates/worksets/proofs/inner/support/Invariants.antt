-- `support`: the invariant is the support of the features passed, and zeros behind it. Assumes nothing.
use mathlib.Core.Path.{◌≡◌}
use lib.ListN.{length}
use Rattle.definition.specs.WorkingSet.{support, padded}
use Rattle.worksets.proofs.inner.support.Given as goal

abbrev pub invariant-loop-j : goal.invariant-loop-j
invariant-loop-j l = record {
  count : l.c ≡ length (support l.w l.j);
  places : l.indices ≡ padded (support l.w l.j) (length l.w);
}
