-- `keep`: the invariant is the working set's weights gathered so far, put where the row begins. Assumes nothing.
use mathlib.Core.Path.{◌≡◌}
use lib.ListN.{get_or}
use Rattle.doubles.specs.Num.{at}
use Rattle.doubles.specs.Steps.{tab}
use Rattle.doubles.specs.Buffer.{put}
use Rattle.history.proofs.keep.Given as goal

abbrev pub invariant-loop-i : goal.invariant-loop-i
invariant-loop-i l = l.kept ≡ put l.initial.kept l.base (tab (λ k. at l.w (get_or l.ws k 0)) l.i)
