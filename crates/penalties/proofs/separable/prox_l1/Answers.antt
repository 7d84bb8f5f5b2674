-- `prox_l1` is one soft threshold. Assumes nothing.
use Rattle.penalties.specs.Penalty.{prox_l1}
use Rattle.penalties.proofs.separable.prox_l1.Goals as goal

pub returns : goal.returns
unfolding prox_l1
returns c = c.soft_thresholding.ensures
