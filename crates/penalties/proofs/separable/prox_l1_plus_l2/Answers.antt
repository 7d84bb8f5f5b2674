-- `prox_l1_plus_l2` is a soft threshold and a division. Assumes nothing.
use Rattle.penalties.specs.Penalty.{prox_l1_plus_l2}
use Rattle.penalties.proofs.separable.prox_l1_plus_l2.Goals as goal

pub returns : goal.returns
unfolding prox_l1_plus_l2
returns c = rw c.soft_thresholding-soft.ensures
