-- `largest_abs`: the invariant is the largest of those passed. Assumes nothing.
use mathlib.Core.Path.{◌≡◌}
use Rattle.doubles.specs.Num.{#0, at, abs}
use Rattle.doubles.specs.Steps.{largest_from}
use Rattle.passes.proofs.largest_abs.Given as goal

abbrev pub invariant-loop-x : goal.invariant-loop-x
invariant-loop-x l = l.v ≡ largest_from #0 (λ k. abs (at l.xs k)) l.x-index
