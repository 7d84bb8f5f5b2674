-- `clear_above`: the invariant is the definition's loop down to row t. Assumes nothing.
use Rattle.std.proofs.Common.{◌≡◌, ◌≤◌, ◌-◌}
use Rattle.doubles.specs.Steps.{downward}
use Rattle.elimination.specs.Elimination.{cleared}
use Rattle.elimination.proofs.inner.System.clear_above.Given as goal

abbrev pub invariant-loop-t : goal.invariant-loop-t
invariant-loop-t l =
    (l.self.size ≡ l.initial.self.size) × (l.t ≤ l.i)
    × (l.self.rows ≡ downward (cleared l.i 0 l.initial.self.size) l.i (l.i - l.t) l.initial.self.rows)
