-- `is_usable`: the invariant is that the columns passed are usable. Assumes nothing.
use mathlib.Core.Path.{◌≡◌}
use mathlib.Core.Bool.{true}
use Rattle.doubles.specs.Steps.{all}
use Rattle.definition.specs.Preparation.{usable_at}
use Rattle.decisions.proofs.is_usable.Given as goal

abbrev pub invariant-loop-j : goal.invariant-loop-j
invariant-loop-j l = true ≡ all (usable_at l.p l.prepared) l.j
