-- `check_early`: the sizes, then the settings. Assumes nothing.
use borrow.Author.Tests.{eq-eqb, ne_eqb}
use Rattle.doubles.specs.Num.{◌and◌}
use Rattle.definition.specs.Call.{early_fault}
use Rattle.decisions.proofs.check_early.Goals as goal
use Rattle.decisions.proofs.check_early.Goals.{
  then-not-sizes_agree-via-then-not-sizes_agree,
  then-not-sizes_agree-via-else-not-sizes_agree+then-y-x,
}

pub returns-then-not-sizes_agree : goal.returns-then-not-sizes_agree
unfolding early_fault ◌and◌
returns-then-not-sizes_agree c = rw (c.at.ensures, ← c.sizes_agree.ensures) (elim c.then-not-sizes_agree.branch [
  | then-not-sizes_agree-via-then-not-sizes_agree w ↦ rw w.if-not-sizes_agree.true
  | then-not-sizes_agree-via-else-not-sizes_agree+then-y-x w ↦ rw (w.if-not-sizes_agree.false, ne_eqb _ _ w.if-y-x.true)
])

pub returns : goal.returns
unfolding early_fault ◌and◌
returns c = rw (← c.sizes_agree.ensures, c.if-not-sizes_agree.false, eq-eqb _ _ c.if-y-x.false) c.check_settings.ensures
