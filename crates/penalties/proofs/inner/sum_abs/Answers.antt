-- `sum_abs`: its term is |w|. Assumes nothing.
use Rattle.std.proofs.Common.{of_calls}
use Rattle.doubles.specs.Num.{abs}
use Rattle.penalties.specs.Penalty.{sum_abs}
use Rattle.penalties.proofs.inner.sum_abs.Goals as goal

pub returns : goal.returns
unfolding sum_abs
returns c = c.sum_of.ensures abs (λ x r h. search of_calls)
