-- `objective`: datafit and penalty. Assumes nothing.
use Rattle.definition.specs.Extrapolation.{objective_of}
use Rattle.extrapolation.proofs.objective.Goals as goal

pub returns : goal.returns
unfolding objective_of
returns c = rw (c.value.ensures, c.value-2.ensures)
