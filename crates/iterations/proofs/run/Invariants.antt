-- `run`: the invariant is what the turns so far have led to; a turn that stops or breaks off leaves the loop, and the last turn ends it. Assumes nothing.
use mathlib.Core.Path.{◌≡◌}
use lib.ListN.{length}
use Rattle.iterations.proofs.Laws.Reached.{Turned}
use Rattle.iterations.proofs.run.Given as goal

abbrev pub invariant-loop-t : goal.invariant-loop-t
invariant-loop-t l = (length l.indices ≡ length l.initial.indices)
    × Turned l.problem l.initial.w l.initial.fit l.initial.scratch l._t l.totals l.w l.fit l.scratch
