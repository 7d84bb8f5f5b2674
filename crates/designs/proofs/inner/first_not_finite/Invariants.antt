-- The search upward: so far nothing was found. Assumes nothing.
use Rattle.std.proofs.Common.{◌≡◌, ◌+◌, None, not}
use Rattle.designs.specs.Search.{first_of, mark}
use Rattle.doubles.specs.Num.{at, finite}
use Rattle.designs.proofs.inner.first_not_finite.Given as goal

abbrev pub invariant-loop-k : goal.invariant-loop-k
invariant-loop-k l = None ≡ first_of (λ i. mark (not (finite (at l.xs i))) (l.from + i)) l.k
