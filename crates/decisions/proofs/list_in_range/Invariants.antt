-- `list_in_range`: the two bounds, then the invariant is that the alphas passed are good. Assumes nothing.
use mathlib.Core.Path.{◌≡◌}
use mathlib.Core.Bool.{true}
use Rattle.doubles.specs.Steps.{all}
use Rattle.definition.specs.Walk.{good_at}
use Rattle.decisions.proofs.list_in_range.Given as goal

abbrev pub invariant-loop-k : goal.invariant-loop-k
invariant-loop-k l = true ≡ all (good_at l.alphas) l.k
