-- Any two outcomes that the public promise allows coincide: the answer, and what the lent buffer holds. `Post` is the promise as the check reads
-- it: of the arguments, the result and the parameters at exit. Assumes nothing.
use mathlib.Core.Path.{◌≡◌}
use Rattle.doubles.proofs.Tight.{coincide, one_outcome}
use Rattle.std.specs.Prelude.{Result}
use Rattle.doubles.specs.declared.Refusal.{Refusal}
use Rattle.preparation.proofs.prepare.Reads as prepare_reads

prepare_tight : (κs : _) (a : _) (r r' : Result (Unit {0}) Refusal) (s s' : _) → prepare_reads.Post κs a r s → prepare_reads.Post κs a r' s'
    → (r ≡ r') × (s.1.1.0.now ≡ s'.1.1.0.now)
prepare_tight κs a r r' s s' p q = (one_outcome r r' (coincide p.0 q.0), coincide p.1 q.1)
