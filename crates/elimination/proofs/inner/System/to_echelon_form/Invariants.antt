-- `to_echelon_form`: the invariant is the definition's loop up to pivot i. Assumes nothing.
use Rattle.std.proofs.Common.{◌≡◌}
use Rattle.doubles.specs.Steps.{steps}
use Rattle.elimination.specs.Elimination.{cleared_below}
use Rattle.elimination.proofs.inner.System.to_echelon_form.Given as goal

abbrev pub invariant-loop-i : goal.invariant-loop-i
invariant-loop-i l =
    (l.self.size ≡ l.initial.self.size) × (l.self.rows ≡ steps (cleared_below l.initial.self.size) l.i l.initial.self.rows)
