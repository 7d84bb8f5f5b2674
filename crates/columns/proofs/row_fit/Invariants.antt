-- `row_fit`: the invariant is the sum over the features passed. Assumes nothing.
use mathlib.Core.Path.{◌≡◌}
use Prim.Native.Nat.{◌+◌}
use lib.ListN.{get_or}
use Rattle.doubles.specs.Num.{◌⊗◌, at}
use Rattle.doubles.specs.Steps.{sum as total}
use Rattle.columns.proofs.row_fit.Given as goal

abbrev pub invariant-loop-j : goal.invariant-loop-j
invariant-loop-j l = l.s ≡ total (λ i. at l.w (get_or l.ws i 0) ⊗ at l.values (l.base + get_or l.ws i 0)) l.j-index
