-- `back_substitute`: the invariant is the definition's loop down to pivot i, and ends at pivot 1. Assumes nothing.
use Rattle.std.proofs.Common.{◌≡◌, ◌≤◌, ◌-◌}
use Rattle.doubles.specs.Steps.{downward}
use Rattle.elimination.specs.Elimination.{cleared_above}
use Rattle.elimination.proofs.inner.System.back_substitute.Given as goal

abbrev pub invariant-loop-i : goal.invariant-loop-i
invariant-loop-i l =
    (l.self.size ≡ l.initial.self.size) × (1 ≤ l.i) × (l.i ≤ l.initial.self.size)
    × (l.self.rows ≡ downward (cleared_above l.initial.self.size) l.initial.self.size (l.initial.self.size - l.i) l.initial.self.rows)
