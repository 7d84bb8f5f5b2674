-- `run_epochs`: the invariant is what the epochs so far have led to; an epoch that stops or breaks off leaves the loop. Assumes nothing.
use Rattle.epochs.proofs.Laws.Reached.{Reached}
use Rattle.epochs.proofs.run_epochs.Given as goal

abbrev pub invariant-loop-e : goal.invariant-loop-e
invariant-loop-e l =
    Reached l.problem l.ws l.outer l.initial.counts l.initial.w l.initial.fit l.initial.scratch l.e l.counts l.w l.fit l.scratch
