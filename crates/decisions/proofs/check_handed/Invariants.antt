-- `check_handed`: the search upward, so far nothing was found. Assumes nothing.
use mathlib.Core.Path.{◌≡◌}
use mathlib.Core.Bool.{not}
use Rattle.designs.specs.Search.{first_of, mark}
use Rattle.std.specs.Prelude.{None}
use Rattle.definition.specs.Call.{acceptable_at}
use Rattle.decisions.proofs.check_handed.Given as goal

abbrev pub invariant-loop-j : goal.invariant-loop-j
invariant-loop-j l = None ≡ first_of (λ k. mark (not (acceptable_at l.p l.prepared k)) k) l.j
