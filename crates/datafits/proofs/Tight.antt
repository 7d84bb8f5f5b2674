-- Any two outcomes that a public promise allows coincide: the answer, and what the lent buffer holds. `Post` is the promise as the check reads
-- it: of the arguments, the result and the parameters at exit. Assumes nothing.
use mathlib.Core.Path.{◌≡◌}
use lib.Ieee.{Float}
use Rattle.std.specs.Prelude.{Result}
use Rattle.doubles.specs.declared.Refusal.{Refusal}
use Rattle.doubles.proofs.Tight.{coincide, one_outcome}
use Rattle.datafits.proofs.initialize.Reads as initialize_reads
use Rattle.datafits.proofs.gradient_j.Reads as gradient_j_reads
use Rattle.datafits.proofs.full_grad.Reads as full_grad_reads
use Rattle.datafits.proofs.value.Reads as value_reads
use Rattle.datafits.proofs.update_model_fit.Reads as update_model_fit_reads
use Rattle.datafits.proofs.compute_extrapolated_fit.Reads as compute_extrapolated_fit_reads
use Rattle.datafits.proofs.compute_alpha_max.Reads as compute_alpha_max_reads
use Rattle.datafits.proofs.compute_alpha_max_sparse.Reads as compute_alpha_max_sparse_reads

initialize_tight : (κs : _) (a : _) (r r' : Result (Unit {0}) Refusal) (s s' : _)
    → initialize_reads.Post κs a r s → initialize_reads.Post κs a r' s'
    → (r ≡ r') × (s.1.1.0.now ≡ s'.1.1.0.now)
initialize_tight κs a r r' s s' p q = (one_outcome r r' (coincide p.0 q.0), coincide p.1 q.1)

gradient_j_tight : (κs : _) (a : _) (r r' : Result Float Refusal) (s s' : _)
    → gradient_j_reads.Post κs a r s → gradient_j_reads.Post κs a r' s' → r ≡ r'
gradient_j_tight κs a r r' s s' p q = one_outcome r r' (coincide p q)

full_grad_tight : (κs : _) (a : _) (r r' : Result (Unit {0}) Refusal) (s s' : _)
    → full_grad_reads.Post κs a r s → full_grad_reads.Post κs a r' s'
    → (r ≡ r') × (s.1.1.1.0.now ≡ s'.1.1.1.0.now)
full_grad_tight κs a r r' s s' p q = (one_outcome r r' (coincide p.0 q.0), coincide p.1 q.1)

value_tight : (κs : _) (a : _) (r r' : Result Float Refusal) (s s' : _) → value_reads.Post κs a r s → value_reads.Post κs a r' s' → r ≡ r'
value_tight κs a r r' s s' p q = one_outcome r r' (coincide p q)

update_model_fit_tight : (κs : _) (a : _) (r r' : Result (Unit {0}) Refusal) (s s' : _)
    → update_model_fit_reads.Post κs a r s → update_model_fit_reads.Post κs a r' s'
    → (r ≡ r') × (s.1.0.now ≡ s'.1.0.now)
update_model_fit_tight κs a r r' s s' p q = (one_outcome r r' (coincide p.0 q.0), coincide p.1 q.1)

compute_extrapolated_fit_tight : (κs : _) (a : _) (r r' : Result (Unit {0}) Refusal) (s s' : _)
    → compute_extrapolated_fit_reads.Post κs a r s → compute_extrapolated_fit_reads.Post κs a r' s'
    → (r ≡ r') × (s.1.1.1.0.now ≡ s'.1.1.1.0.now)
compute_extrapolated_fit_tight κs a r r' s s' p q = (one_outcome r r' (coincide p.0 q.0), coincide p.1 q.1)

compute_alpha_max_tight : (κs : _) (a : _) (r r' : Result Float Refusal) (s s' : _)
    → compute_alpha_max_reads.Post κs a r s → compute_alpha_max_reads.Post κs a r' s'
    → (r ≡ r') × (s.1.1.1.1.0.now ≡ s'.1.1.1.1.0.now)
compute_alpha_max_tight κs a r r' s s' p q = (one_outcome r r' (coincide p.0 q.0), coincide p.1 q.1)

compute_alpha_max_sparse_tight : (κs : _) (a : _) (r r' : Result Float Refusal) (s s' : _)
    → compute_alpha_max_sparse_reads.Post κs a r s → compute_alpha_max_sparse_reads.Post κs a r' s'
    → (r ≡ r') × (s.1.1.1.1.1.1.0.now ≡ s'.1.1.1.1.1.1.0.now)
compute_alpha_max_sparse_tight κs a r r' s s' p q = (one_outcome r r' (coincide p.0 q.0), coincide p.1 q.1)
