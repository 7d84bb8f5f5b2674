-- `check_contents` goes by the layout. Assumes nothing.
use mathlib.Core.Path.{◌≡◌}
use Rattle.designs.specs.Checks.{lengths, csc_fault, contents}
use Rattle.designs.proofs.Laws.Passed.{sized, csc-starts, csc-rows}
use mathlib.Core.Bool.{true}
use Rattle.designs.proofs.inner.check_contents.Goals as goal

pub check_numbers-requires : goal.check_numbers-requires
check_numbers-requires c = (sized _ _ _ _ c.requires).few

pub check_csc-requires : goal.check_csc-requires
check_csc-requires c =
    let z = sized _ _ _ _ c.requires in
    let e : lengths _ _ _ _ _ _ ≡ true = rw c.in-Csc.is at z.agree in
    (z.few, csc-starts _ _ _ _ _ e, csc-rows _ _ _ _ _ e)

pub returns-in-Dense : goal.returns-in-Dense
unfolding contents
returns-in-Dense c = rw c.in-Dense.is c.check_numbers.ensures

pub returns-in-Csc : goal.returns-in-Csc
unfolding contents csc_fault
returns-in-Csc c = rw c.in-Csc.is c.check_csc.ensures
