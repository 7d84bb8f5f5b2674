-- Any two outcomes that a public promise allows coincide. `Post` is the promise as the check reads it. Assumes nothing.
use mathlib.Core.Path.{◌≡◌}
use Rattle.std.specs.Prelude.{Result}
use Rattle.doubles.specs.declared.Refusal.{Refusal}
use Rattle.doubles.proofs.Tight.{coincide, one_outcome}
use Rattle.designs.specs.declared.Matrix.{Matrix}
use Rattle.designs.proofs.Matrix.dense.Reads as dense_reads
use Rattle.designs.proofs.Matrix.csc.Reads as csc_reads
use Rattle.designs.proofs.check.Reads as check_reads

check_tight : (κs : _) (a : _) (r r' : Result (Unit {0}) Refusal) (s : _) → check_reads.Post κs a r s → check_reads.Post κs a r' s → r ≡ r'
check_tight κs a r r' s p q = one_outcome r r' (coincide p q)

-- of a dense design's starts and rows, which are none, only what they hold is promised: where no places lie says nothing
dense_tight : (κs : _) (a : _) (r r' : Matrix) (s : _) → dense_reads.Post κs a r s → dense_reads.Post κs a r' s
    → (r.shape ≡ r'.shape) × (r.starts.now ≡ r'.starts.now) × (r.rows.now ≡ r'.rows.now) × (r.values ≡ r'.values)
dense_tight κs a r r' s p q = (coincide p.0 q.0, coincide p.1 q.1, coincide p.2 q.2, coincide p.3 q.3)

csc_tight : (κs : _) (a : _) (r r' : Matrix) (s : _) → csc_reads.Post κs a r s → csc_reads.Post κs a r' s → r ≡ r'
csc_tight κs a r r' s p q =
    λ i. record {
      shape = coincide p.0 q.0 i;
      starts = coincide p.1 q.1 i;
      rows = coincide p.2 q.2 i;
      values = coincide p.3 q.3 i;
    }
