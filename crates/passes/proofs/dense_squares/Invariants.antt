-- `dense_squares`: the invariant is the running sums over the rows passed. Assumes nothing.
use mathlib.Core.Path.{◌≡◌}
use Prim.Native.Nat.{◌+◌, ◌*◌}
use lib.ListN.{length}
use Rattle.doubles.specs.Num.{◌⊗◌, at}
use Rattle.passes.proofs.Laws.Rows.{sums}
use Rattle.passes.proofs.dense_squares.Given as goal

abbrev pub invariant-loop-i : goal.invariant-loop-i
invariant-loop-i l =
    l.buf ≡ sums (λ k j. at l.values (k * length l.initial.buf + j) ⊗ at l.values (k * length l.initial.buf + j)) (length l.initial.buf) l.i
