-- `check_range`: alpha, then the second number. Assumes nothing.
use Rattle.penalties.specs.Penalty.{penalty_fault}
use Rattle.penalties.proofs.inner.check_range.Goals as goal

pub returns-then-not-alpha_in_range : goal.returns-then-not-alpha_in_range
unfolding penalty_fault
returns-then-not-alpha_in_range c =
    rw (c.at.ensures, ← c.alpha_of.ensures, ← c.alpha_in_range.ensures, c.if-not-alpha_in_range.true)

pub returns-then-not-second_in_range : goal.returns-then-not-second_in_range
unfolding penalty_fault
returns-then-not-second_in_range c =
    rw (
      c.at-then-not-second_in_range.ensures,
      ← c.alpha_of.ensures,
      ← c.alpha_in_range.ensures,
      c.if-not-alpha_in_range.false,
      ← c.second_in_range.ensures,
      c.if-not-second_in_range.true,
    )

pub returns : goal.returns
unfolding penalty_fault
returns c =
    rw (
      ← c.alpha_of.ensures,
      ← c.alpha_in_range.ensures,
      c.if-not-alpha_in_range.false,
      ← c.second_in_range.ensures,
      c.if-not-second_in_range.false,
    )
