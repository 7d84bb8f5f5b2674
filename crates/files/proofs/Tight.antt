-- Any two outcomes that the public promise allows coincide: the answer, and what the four lent arrays hold. `Post` is the promise as the check
-- reads it: of the arguments, the result and the parameters at exit. Assumes nothing.
use mathlib.Core.Path.{◌≡◌, ap}
use Rattle.std.specs.Prelude.{Result}
use Rattle.doubles.specs.declared.Refusal.{Refusal}
use Rattle.doubles.proofs.Tight.{coincide, one_outcome}
use Rattle.files.specs.Call.{Places}
use Rattle.files.specs.declared.Sizes.{Sizes}
use Rattle.files.proofs.read.Reads as read_reads

read_tight : (κs : _) (a : _) (r r' : Result Sizes Refusal) (s s' : _) → read_reads.Post κs a r s → read_reads.Post κs a r' s'
    → (r ≡ r')
    × (s.1.0.now ≡ s'.1.0.now)
    × (s.1.1.0.now ≡ s'.1.1.0.now)
    × (s.1.1.1.0.now ≡ s'.1.1.1.0.now)
    × (s.1.1.1.1.0.now ≡ s'.1.1.1.1.0.now)
read_tight κs a r r' s s' p q =
    let places = coincide p.1 q.1 in (
      one_outcome r r' (coincide p.0 q.0),
      ap (λ (b : Places). b.targets) places,
      ap (λ (b : Places). b.values) places,
      ap (λ (b : Places). b.starts) places,
      ap (λ (b : Places). b.rows) places,
    )
