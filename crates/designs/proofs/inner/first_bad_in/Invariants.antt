-- The search upward in one column: so far nothing was found. Assumes nothing.
use Rattle.std.proofs.Common.{◌≡◌, ◌+◌, None}
use Rattle.designs.specs.Search.{first_of, mark}
use Rattle.designs.specs.Checks.{bad_row}
use Rattle.designs.proofs.inner.first_bad_in.Given as goal

abbrev pub invariant-loop-k : goal.invariant-loop-k
invariant-loop-k l = None ≡ first_of (λ i. mark (bad_row l.x.shape.n l.x.rows.now l.start i) (l.start + i)) l.k
