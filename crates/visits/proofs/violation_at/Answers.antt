-- `violation_at`: one test after the other. Assumes nothing.
use Rattle.doubles.specs.Num.{◌and◌}
use Rattle.visits.specs.Inner.Reading.{violation_at}
use Rattle.visits.proofs.violation_at.Goals as goal

pub returns-then-not-is_finite : goal.returns-then-not-is_finite
unfolding violation_at ◌and◌
returns-then-not-is_finite c = rw (← c.is_finite.ensures, c.if-not-is_finite.true)

pub returns-then-not-is_finite-2 : goal.returns-then-not-is_finite-2
unfolding violation_at ◌and◌
returns-then-not-is_finite-2 c =
    rw (
      ← c.is_finite.ensures,
      c.if-not-is_finite.false,
      ← c.violation-v.ensures,
      ← c.is_finite-2.ensures,
      c.if-not-is_finite-2.true,
    )

pub returns : goal.returns
unfolding violation_at ◌and◌
returns c =
    rw (
      ← c.is_finite.ensures,
      c.if-not-is_finite.false,
      ← c.violation-v.ensures,
      ← c.is_finite-2.ensures,
      c.if-not-is_finite-2.false,
    )
