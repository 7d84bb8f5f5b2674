-- Any two outcomes that the public promise allows coincide: the answer, and what the four lent buffers hold. `Post` is the promise as the check
-- reads it: of the arguments, the result and the parameters at exit. Assumes nothing.
use mathlib.Core.Path.{◌≡◌, ap}
use Rattle.std.specs.Prelude.{Result}
use Rattle.doubles.proofs.Tight.{coincide, one_outcome}
use Rattle.doubles.specs.declared.Refusal.{Refusal}
use Rattle.definition.specs.Call.{Lent}
use Rattle.definition.specs.declared.Report.{Report}
use Rattle.solvers.proofs.solve.Reads as solve_reads

solve_tight : (κs : _) (a : _) (r r' : Result Report Refusal) (s s' : _) → solve_reads.Post κs a r s → solve_reads.Post κs a r' s'
    → (r ≡ r')
    × (s.1.1.1.1.0.now ≡ s'.1.1.1.1.0.now)
    × (s.1.1.1.1.1.0.now ≡ s'.1.1.1.1.1.0.now)
    × (s.1.1.1.1.1.1.0.now ≡ s'.1.1.1.1.1.1.0.now)
    × (s.1.1.1.1.1.1.1.0.now ≡ s'.1.1.1.1.1.1.1.0.now)
solve_tight κs a r r' s s' p q =
    let buffers = coincide p.1 q.1 in (
      one_outcome r r' (coincide p.0 q.0),
      ap (λ (b : Lent). b.weights) buffers,
      ap (λ (b : Lent). b.fit) buffers,
      ap (λ (b : Lent). b.indices) buffers,
      ap (λ (b : Lent). b.scratch) buffers,
    )
