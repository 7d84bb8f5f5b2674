-- The search upward over the columns: so far nothing was found. Assumes nothing.
use Rattle.std.proofs.Common.{◌≡◌, None}
use Rattle.designs.specs.Search.{first_of}
use Rattle.designs.specs.Checks.{bad_column}
use Rattle.designs.proofs.inner.first_bad_row.Given as goal

abbrev pub invariant-loop-j : goal.invariant-loop-j
invariant-loop-j l = None ≡ first_of (bad_column l.x.shape.n l.x.starts.now l.x.rows.now) l.j
