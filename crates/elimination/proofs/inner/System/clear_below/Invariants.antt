-- `clear_below`: the invariant is the definition's loop up to row t. Assumes nothing.
use Rattle.std.proofs.Common.{◌≡◌, ◌≤◌, ◌+◌}
use Rattle.doubles.specs.Steps.{upward}
use Rattle.elimination.specs.Elimination.{cleared}
use Rattle.elimination.proofs.inner.System.clear_below.Given as goal

abbrev pub invariant-loop-t : goal.invariant-loop-t
invariant-loop-t l =
    (l.self.size ≡ l.initial.self.size) × (l.i + 1 ≤ l.t)
    × (l.self.rows ≡ upward (cleared l.i l.i l.initial.self.size) (l.i + 1) l.t l.initial.self.rows)
