-- Any two outcomes that a public promise allows coincide. `Post` is the promise as the check reads it: of the arguments, the result and
-- what the parameters are at exit. A reading of an enum by cases loses nothing, so it is enough that the readings coincide. Assumes nothing.
use mathlib.Core.Path.{◌≡◌}
use lib.Ieee.{Float}
use Rattle.std.specs.Prelude.{Result}
use Rattle.doubles.specs.declared.Refusal.{Refusal}
use Rattle.doubles.proofs.Tight.{coincide, one_outcome}
use Rattle.penalties.proofs.prox_funcs.soft_thresholding.Reads as soft_reads
use Rattle.penalties.proofs.separable.value.Reads as value_reads
use Rattle.penalties.proofs.separable.prox.Reads as prox_reads
use Rattle.penalties.proofs.separable.subdiff_distance.Reads as distance_reads

soft_tight : (a : _) (r r' : Float) (s : _) → soft_reads.Post tt a r s → soft_reads.Post tt a r' s → r ≡ r'
soft_tight a r r' s p q = coincide p q

value_tight : (κs : _) (a : _) (r r' : Result Float Refusal) (s : _) → value_reads.Post κs a r s → value_reads.Post κs a r' s → r ≡ r'
value_tight κs a r r' s p q = one_outcome r r' (coincide p q)

prox_tight : (a : _) (r r' : Float) (s : _) → prox_reads.Post tt a r s → prox_reads.Post tt a r' s → r ≡ r'
prox_tight a r r' s p q = coincide p q

distance_tight : (a : _) (r r' : Result Float Refusal) (s : _) → distance_reads.Post tt a r s → distance_reads.Post tt a r' s → r ≡ r'
distance_tight a r r' s p q = one_outcome r r' (coincide p q)
