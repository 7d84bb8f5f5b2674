-- `value`: the squared error over 2n. Assumes nothing.
use Rattle.designs.specs.Design.{datafit}
use Rattle.quadratic.proofs.value.Goals as goal

pub returns : goal.returns
unfolding datafit
returns c = rw c.squared_error.ensures
