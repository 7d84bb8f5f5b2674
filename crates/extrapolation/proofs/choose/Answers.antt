-- `choose`: the candidate's fit is copied, or the weights are. Assumes nothing.
use Rattle.extrapolation.specs.Inner.Places.{chosen_by}
use Rattle.extrapolation.proofs.choose.Goals as goal

pub returns-then-is_better : goal.returns-then-is_better
unfolding chosen_by
returns-then-is_better c =
    rw (
      ← c.is_better.ensures,
      c.if-is_better.true,
      c.copy.ensures,
    )

pub returns-else-is_better : goal.returns-else-is_better
unfolding chosen_by
returns-else-is_better c =
    rw (
      ← c.is_better.ensures,
      c.if-is_better.false,
      c.copy-else-is_better.ensures,
    )
