-- `cd_epoch`: the invariant is that all visits so far went well and led to these weights and this fit. Assumes nothing.
use mathlib.Core.Path.{◌≡◌}
use lib.ListN.{length, get_or}
use Rattle.doubles.specs.Steps.{going, upto}
use Rattle.definition.specs.Epoch.{visit}
use Rattle.definition.specs.Inner.Problem.{as_task}
use Rattle.visits.proofs.cd_epoch.Given as goal

abbrev pub invariant-loop-j : goal.invariant-loop-j
invariant-loop-j l = (length l.w ≡ l.task.x.matrix.shape.p) × (length l.fit ≡ l.task.x.matrix.shape.n)
    × (going (record { weights = l.w; fit = l.fit })
    ≡ upto (λ k. visit (as_task l.task) (get_or l.ws k 0)) l.j-index (record { weights = l.initial.w; fit = l.initial.fit }))
