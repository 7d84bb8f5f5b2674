-- The search upward: so far nothing was found. Assumes nothing.
use mathlib.Core.Path.{◌≡◌}
use Rattle.designs.specs.Search.{first_of, mark}
use Rattle.std.specs.Prelude.{None}
use Rattle.worksets.specs.Call.{bad_violation}
use Rattle.worksets.proofs.inner.first_bad_violation.Given as goal

abbrev pub invariant-loop-j : goal.invariant-loop-j
invariant-loop-j l = None ≡ first_of (λ i. mark (bad_violation l.kkt l.w i) i) l.j
