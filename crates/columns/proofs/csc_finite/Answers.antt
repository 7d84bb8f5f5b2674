-- `csc_finite`: the invariant is that the fit is finite at the entries passed; that each row is below n comes from soundness. Assumes nothing.
use Rattle.doubles.proofs.Laws.Steps.{upward-none, upward_passed, upward_broken, upward-end}
use Rattle.designs.specs.Design.{csc, finite_at}
use Rattle.designs.proofs.Laws.Layouts.{as_csc}
use Rattle.columns.proofs.csc_finite.Goals as goal

pub loop-e-init : goal.loop-e-init
loop-e-init c = upward-none _ _ _

pub loop-e-preserved : goal.loop-e-preserved
loop-e-preserved c =
    upward_passed _ _ _ c.loop-e.auto.e c.loop-e.invariant
    (rw (← c.sample_of.ensures, ← c.reading.ensures, ← c.is_finite.ensures) c.if-not-is_finite.false)

pub returns-then-not-is_finite : goal.returns-then-not-is_finite
unfolding finite_at csc
returns-then-not-is_finite c =
    let stored = c.stored_of-start.ensures in
    rw (as_csc _ _ _ _ _ _ c.requires.0, ← stored.1, ← stored.0)
    (upward_broken _ _ _ _ c.loop-e.auto.e c.loop-e-test.true c.loop-e.invariant
    (rw (← c.sample_of.ensures, ← c.reading.ensures, ← c.is_finite.ensures) c.if-not-is_finite.true))

pub returns : goal.returns
unfolding finite_at csc
returns c =
    let stored = c.stored_of-start.ensures in
    rw (as_csc _ _ _ _ _ _ c.requires.0, ← stored.1, ← stored.0) (upward-end _ _ _ _ _ _ c.loop-e.invariant c.loop-e.auto.e-end c.loop-e-test.false)
