-- Any two outcomes that a public promise allows coincide: the number, the place, and the product or the fit. `Post` is the promise as the check
-- reads it: of the arguments, the result and the parameters at exit. Assumes nothing.
use mathlib.Core.Path.{◌≡◌}
use Rattle.doubles.proofs.Tight.{coincide}
use Rattle.kernels.proofs.kernel_column_product_dense.Reads as column_product_reads
use Rattle.kernels.proofs.kernel_column_update_dense.Reads as column_update_reads

column_product_dense_tight : (κs : _) (a : _) (r r' : _) (s s' : _) → column_product_reads.Post κs a r s → column_product_reads.Post κs a r' s'
    → (r ≡ r') × (s.1.1.1.1.1.1.0.now ≡ s'.1.1.1.1.1.1.0.now) × (s.1.1.1.1.1.0.now ≡ s'.1.1.1.1.1.0.now)
column_product_dense_tight κs a r r' s s' p q = (coincide p.0 q.0, coincide p.1 q.1, coincide p.2 q.2)

column_update-dense_tight : (κs : _) (a : _) (r r' : _) (s s' : _) → column_update_reads.Post κs a r s → column_update_reads.Post κs a r' s'
    → (r ≡ r') × (s.1.1.1.1.1.1.0.now ≡ s'.1.1.1.1.1.1.0.now) × (s.1.1.1.1.1.0.now ≡ s'.1.1.1.1.1.0.now)
column_update-dense_tight κs a r r' s s' p q = (coincide p.0 q.0, coincide p.1 q.1, coincide p.2 q.2)
