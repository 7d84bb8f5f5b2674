-- `prox_of`: the prox of the penalty that the code stands for. Assumes nothing.
use Rattle.plain_numbers.specs.Codes.{coded_prox}
use Rattle.plain_numbers.proofs.prox_of.Goals as goal

pub returns : goal.returns
unfolding coded_prox
returns c = rw (← c.penalty_of.ensures) c.prox.ensures
