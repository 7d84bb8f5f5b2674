-- `check_csc`: the starts, then the rows, then the numbers. Assumes nothing.
use mathlib.Core.Path.{◌∙◌}
use Rattle.designs.specs.Checks.{csc_fault}
use Rattle.designs.proofs.Laws.Passed.{rising-rows}
use Rattle.designs.proofs.inner.check_csc.Goals as goal

pub returns-in-Some : goal.returns-in-Some
unfolding csc_fault
returns-in-Some c = rw (c.at.ensures, ← c.first_bad_start.ensures, c.in-Some.is)

pub first_bad_row-requires : goal.first_bad_row-requires
first_bad_row-requires c = (
  c.requires.1,
  rising-rows _ _ _ _ _ c.requires.1 c.requires.2 c.first_bad_start.ensures c.in_default.is,
)

pub returns-in-Some-first_bad_row : goal.returns-in-Some-first_bad_row
unfolding csc_fault
returns-in-Some-first_bad_row c =
    rw (
      c.at-in-Some-first_bad_row.ensures,
      ← c.first_bad_start.ensures,
      c.in_default.is,
      ← c.first_bad_row.ensures,
      c.in-Some-first_bad_row.is,
    )

pub returns : goal.returns
unfolding csc_fault
returns c =
    c.check_numbers.ensures ∙ rw (
      ← c.first_bad_start.ensures,
      c.in_default.is,
      ← c.first_bad_row.ensures,
      c.in_default-first_bad_row.is,
    )
