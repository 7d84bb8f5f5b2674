-- `csc_dot`: the invariant is the sum over the stored entries passed; that each row is below n comes from soundness. Assumes nothing.
use Rattle.doubles.proofs.Laws.Steps.{upward-none, upward-turn, upward-end}
use Rattle.designs.specs.Design.{dot, csc}
use Rattle.designs.proofs.Laws.Layouts.{as_csc}
use Rattle.columns.proofs.csc_dot.Goals as goal

pub loop-e-init : goal.loop-e-init
loop-e-init c = upward-none _ _ _

pub loop-e-preserved : goal.loop-e-preserved
loop-e-preserved c = upward-turn _ _ _ _ _ _ c.loop-e.auto.e c.loop-e.invariant (rw (c.reading.ensures, c.sample_of.ensures))

pub returns : goal.returns
unfolding dot csc
returns c =
    let stored = c.stored_of-start.ensures in
    rw (as_csc _ _ _ _ _ _ c.requires.0, ← stored.1, ← stored.0) (upward-end _ _ _ _ _ _ c.loop-e.invariant c.loop-e.auto.e-end c.loop-e-test.false)
