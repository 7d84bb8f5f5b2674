-- `coefficients`: the invariant is the quotients written so far, and behind them zeros. Assumes nothing.
use mathlib.Core.Path.{refl}
use native.Mathlib.Omega.{arith}
use Rattle.doubles.proofs.Laws.Steps.{tab-none, tab-more}
use Rattle.definition.specs.Extrapolation.{coefficients}
use Rattle.history.proofs.Laws.System.{filled}
use Rattle.extrapolation.proofs.coefficients.Goals as goal

pub loop-k-init : goal.loop-k-init
loop-k-init c = tab-none _ _

pub loop-k-preserved : goal.loop-k-preserved
loop-k-preserved c = tab-more _ _ _ _ c.loop-k.invariant _ (omega arith) refl

pub returns : goal.returns
unfolding coefficients
returns c =
    rw (← c.total-s.ensures)
    (filled _ _ _ _ _ _ c.requires c.loop-k.auto.k-end c.loop-k-test.false c.loop-k.invariant)
