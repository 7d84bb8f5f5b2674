-- `admit`: sizes, and what the call asks besides; then the rest behind them. Assumes nothing.
use Rattle.doubles.specs.Num.{◌and◌}
use Rattle.designs.specs.Checks.{admitted}
use Rattle.designs.proofs.inner.admit.Goals as goal
use Rattle.designs.proofs.inner.admit.Goals.{
  then-not-sizes_agree-via-then-not-sizes_agree,
  then-not-sizes_agree-via-else-not-sizes_agree+then-not-fits,
}

pub returns-then-not-sizes_agree-clause-fault : goal.returns-then-not-sizes_agree-clause-fault
unfolding admitted ◌and◌
returns-then-not-sizes_agree-clause-fault c = rw (c.at.ensures, ← c.sizes_agree.ensures) (elim c.then-not-sizes_agree.branch [
  | then-not-sizes_agree-via-then-not-sizes_agree w ↦ rw w.if-not-sizes_agree.true
  | then-not-sizes_agree-via-else-not-sizes_agree+then-not-fits w ↦ rw (w.if-not-sizes_agree.false, w.if-not-fits.true)
])

pub returns-clause-fault : goal.returns-clause-fault
unfolding admitted ◌and◌
returns-clause-fault c = rw (← c.sizes_agree.ensures, c.if-not-sizes_agree.false, c.if-not-fits.false) c.check_sized.ensures.fault
