-- `dense_update`: the invariant is the definition's loop over the samples passed. Assumes nothing.
use mathlib.Core.Path.{◌≡◌}
use Prim.Native.Nat.{◌+◌, ◌*◌}
use lib.ListN.{set}
use Rattle.doubles.specs.Num.{◌⊕◌, ◌⊗◌, at}
use Rattle.doubles.specs.Steps.{steps}
use Rattle.columns.proofs.dense_update.Given as goal

abbrev pub invariant-loop-i : goal.invariant-loop-i
invariant-loop-i l = l.fit ≡ steps (λ k f. set f k (at f k ⊕ l.d ⊗ at l.values (k * l.shape.p + l.feature.0))) l.i l.initial.fit
