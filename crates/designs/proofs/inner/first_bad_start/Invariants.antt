-- The search upward: so far nothing was found. Assumes nothing.
use Rattle.std.proofs.Common.{◌≡◌, None}
use Rattle.designs.specs.Search.{first_of, mark}
use Rattle.designs.specs.Checks.{bad_start}
use Rattle.designs.proofs.inner.first_bad_start.Given as goal

abbrev pub invariant-loop-i : goal.invariant-loop-i
invariant-loop-i l = None ≡ first_of (λ k. mark (bad_start l.starts l.m k) k) l.i
