-- `dense_extrapolated_fit`: the invariant is the samples done, and behind them what was there; a law says that rows give what columns give.
-- Assumes nothing.
use mathlib.Core.Path.{◌≡◌}
use Prim.Native.Nat.{◌*◌}
use mathlib.Core.List.{◌++◌}
use lib.ListN.{length, drop}
use Rattle.doubles.specs.Steps.{tab}
use Rattle.columns.specs.Inner.RowFit.{row_fit}
use Rattle.columns.proofs.dense_extrapolated_fit.Given as goal

abbrev pub invariant-loop-i : goal.invariant-loop-i
invariant-loop-i l = l.fit ≡ tab (λ k. row_fit l.values l.ws l.w (k * length l.w)) l.i ++ drop l.i l.initial.fit
