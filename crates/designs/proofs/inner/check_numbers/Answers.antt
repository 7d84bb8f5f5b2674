-- `check_numbers`: the search among the targets, then that among the values. Assumes nothing.
use Rattle.designs.specs.Checks.{numbers}
use Rattle.designs.proofs.inner.check_numbers.Goals as goal

pub returns-in-Some : goal.returns-in-Some
unfolding numbers
returns-in-Some c = rw (c.at.ensures, ← c.first_not_finite.ensures, c.in-Some.is)

pub returns-in-Some-first_not_finite : goal.returns-in-Some-first_not_finite
unfolding numbers
returns-in-Some-first_not_finite c =
    rw (c.at-in-Some-first_not_finite.ensures, ← c.first_not_finite.ensures, c.in_default.is, ← c.first_not_finite-2.ensures, c.in-Some-first_not_finite.is)

pub returns : goal.returns
unfolding numbers
returns c = rw (← c.first_not_finite.ensures, c.in_default.is, ← c.first_not_finite-2.ensures, c.in_default-first_not_finite.is)
