-- `sum_squares`: its term is w². Assumes nothing.
use Rattle.std.proofs.Common.{of_calls}
use Rattle.doubles.specs.Num.{◌⊗◌}
use Rattle.penalties.specs.Penalty.{sum_squares}
use Rattle.penalties.proofs.inner.sum_squares.Goals as goal

pub returns : goal.returns
unfolding sum_squares
returns c = c.sum_of.ensures (λ x. x ⊗ x) (λ x r h. search of_calls)
