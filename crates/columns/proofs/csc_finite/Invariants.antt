-- `csc_finite`: the invariant is that the fit is finite at the entries passed; that each row is below n comes from soundness. Assumes nothing.
use mathlib.Core.Path.{◌≡◌}
use mathlib.Core.Bool.{true}
use lib.ListN.{get_or}
use Rattle.doubles.specs.Num.{at, finite, ◌and◌}
use Rattle.doubles.specs.Steps.{upward}
use Rattle.columns.proofs.csc_finite.Given as goal

abbrev pub invariant-loop-e : goal.invariant-loop-e
invariant-loop-e l = true ≡ upward (λ e b. b and finite (at l.fit (get_or l.x.matrix.rows.now e 0))) l.start l.e true
