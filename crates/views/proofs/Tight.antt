-- Any two outcomes that a public promise allows coincide: the answer, and what the lent buffers hold. `Post` is the promise as the check reads it: of
-- the arguments, the result and the parameters at exit. Assumes nothing.
use mathlib.Core.Path.{◌≡◌, refl, ap}
use mathlib.Core.List.{[]}
use Prim.Native.Nat.{ℕ}
use denote.Bor.{Bor}
use lib.Ieee.{Float}
use Rattle.std.specs.Prelude.{Result}
use Rattle.doubles.proofs.Tight.{coincide, one_outcome}
use Rattle.doubles.specs.declared.Refusal.{Refusal}
use Rattle.definition.specs.Call.{Lent}
use Rattle.definition.specs.declared.Report.{Report}
use Rattle.definition.specs.declared.Usable.{Usable}
use Rattle.walks.proofs.Tight.{SameLents, same_lents}
use Rattle.doubles.specs.Answer.{outcome_of}
use Rattle.designs.specs.Design.{csc_shape}
use Rattle.designs.specs.Given.{given}
use Rattle.views.specs.Check.{design_fault}
use Rattle.designs.specs.declared.Matrix.{Matrix}
use Rattle.views.specs.declared.CSCArray.{CSCArray}
use Rattle.preparation.proofs.prepare.Reads as prepare-reads
use Rattle.solvers.proofs.solve.Reads as solve-reads
use Rattle.walks.proofs.walk.Reads as walk-reads
use Rattle.datafits.proofs.initialize.Reads as initialize-reads
use Rattle.datafits.proofs.gradient_j.Reads as gradient_j-reads
use Rattle.datafits.proofs.full_grad.Reads as full_grad-reads
use Rattle.datafits.proofs.update_model_fit.Reads as update_model_fit-reads
use Rattle.datafits.proofs.compute_extrapolated_fit.Reads as compute_extrapolated_fit-reads
use Rattle.datafits.proofs.compute_alpha_max_sparse.Reads as slices-reads
use Rattle.views.proofs.new.Reads as new-reads
use Rattle.views.proofs.check.Reads as check-reads
use Rattle.views.proofs.prepare_sparse.Reads as prepare_sparse-reads
use Rattle.views.proofs.solve_sparse.Reads as solve_sparse-reads
use Rattle.views.proofs.walk_sparse.Reads as walk_sparse-reads
use Rattle.views.proofs.compute_alpha_max_sparse.Reads as compute_alpha_max_sparse-reads
use Rattle.views.proofs.initialize_sparse.Reads as initialize_sparse-reads
use Rattle.views.proofs.gradient_j_sparse.Reads as gradient_j_sparse-reads
use Rattle.views.proofs.full_grad_sparse.Reads as full_grad_sparse-reads
use Rattle.views.proofs.update_model_fit_sparse.Reads as update_model_fit_sparse-reads
use Rattle.views.proofs.compute_extrapolated_fit_sparse.Reads as compute_extrapolated_fit_sparse-reads

new_tight : (κs : _) (a : _) (r r' : CSCArray) (s : _) → new-reads.Post κs a r s → new-reads.Post κs a r' s → r ≡ r'
new_tight κs a r r' s p q = λ i. record { starts = coincide p.0 q.0 i; rows = coincide p.1 q.1 i; values = coincide p.2 q.2 i }

check_tight : (κs : _) (a : _) (r r' : Result (Unit {0}) Refusal) (s s' : _) → check-reads.Post κs a r s → check-reads.Post κs a r' s' → r ≡ r'
check_tight κs a r r' s s' p q = one_outcome r r' (coincide p q)

prepare_tight : (κs : _) (a : _) (r r' : Result (Unit {0}) Refusal) (s s' : _) → prepare_sparse-reads.Post κs a r s → prepare_sparse-reads.Post κs a r' s'
    → (r ≡ r') × (s.1.1.1.1.0.now ≡ s'.1.1.1.1.0.now)
prepare_tight κs a r r' s s' p q = (one_outcome r r' (coincide p.0 q.0), coincide p.1 q.1)

solve_tight : (κs : _) (a : _) (r r' : Result Report Refusal) (s s' : _) → solve_sparse-reads.Post κs a r s → solve_sparse-reads.Post κs a r' s'
    → (r ≡ r')
    × (s.1.1.1.1.1.1.0.now ≡ s'.1.1.1.1.1.1.0.now)
    × (s.1.1.1.1.1.1.1.0.now ≡ s'.1.1.1.1.1.1.1.0.now)
    × (s.1.1.1.1.1.1.1.1.0.now ≡ s'.1.1.1.1.1.1.1.1.0.now)
    × (s.1.1.1.1.1.1.1.1.1.0.now ≡ s'.1.1.1.1.1.1.1.1.1.0.now)
solve_tight κs a r r' s s' p q =
    let buffers = coincide p.1 q.1 in (
      one_outcome r r' (coincide p.0 q.0),
      ap (λ (b : Lent). b.weights) buffers,
      ap (λ (b : Lent). b.fit) buffers,
      ap (λ (b : Lent). b.indices) buffers,
      ap (λ (b : Lent). b.scratch) buffers,
    )

walk_tight : (κs : _) (a : _) (r r' : Result Usable Refusal) (s s' : _) → walk_sparse-reads.Post κs a r s → walk_sparse-reads.Post κs a r' s'
    → (r ≡ r') × SameLents s.1.1.1.1.1 s'.1.1.1.1.1
walk_tight κs a r r' s s' p q =
    (one_outcome r r' (coincide p.0 q.0), same_lents s.1.1.1.1.1 s'.1.1.1.1.1 (coincide p.2 q.2) (coincide p.1 q.1))

compute_alpha_max_tight : (κs : _) (a : _) (r r' : Result Float Refusal) (s s' : _) → compute_alpha_max_sparse-reads.Post κs a r s
    → compute_alpha_max_sparse-reads.Post κs a r' s'
    → (r ≡ r') × (s.1.1.1.1.0.now ≡ s'.1.1.1.1.0.now)
compute_alpha_max_tight κs a r r' s s' p q = (one_outcome r r' (coincide p.0 q.0), coincide p.1 q.1)

initialize_tight : (κs : _) (a : _) (r r' : Result (Unit {0}) Refusal) (s s' : _) → initialize_sparse-reads.Post κs a r s
    → initialize_sparse-reads.Post κs a r' s'
    → (r ≡ r') × (s.1.1.1.1.0.now ≡ s'.1.1.1.1.0.now)
initialize_tight κs a r r' s s' p q = (one_outcome r r' (coincide p.0 q.0), coincide p.1 q.1)

gradient_j_tight : (κs : _) (a : _) (r r' : Result Float Refusal) (s s' : _) → gradient_j_sparse-reads.Post κs a r s
    → gradient_j_sparse-reads.Post κs a r' s' → r ≡ r'
gradient_j_tight κs a r r' s s' p q = one_outcome r r' (coincide p q)

full_grad_tight : (κs : _) (a : _) (r r' : Result (Unit {0}) Refusal) (s s' : _) → full_grad_sparse-reads.Post κs a r s → full_grad_sparse-reads.Post κs a r' s'
    → (r ≡ r') × (s.1.1.1.1.1.0.now ≡ s'.1.1.1.1.1.0.now)
full_grad_tight κs a r r' s s' p q = (one_outcome r r' (coincide p.0 q.0), coincide p.1 q.1)

update_model_fit_tight : (κs : _) (a : _) (r r' : Result (Unit {0}) Refusal) (s s' : _) → update_model_fit_sparse-reads.Post κs a r s
    → update_model_fit_sparse-reads.Post κs a r' s'
    → (r ≡ r') × (s.1.1.1.0.now ≡ s'.1.1.1.0.now)
update_model_fit_tight κs a r r' s s' p q = (one_outcome r r' (coincide p.0 q.0), coincide p.1 q.1)

compute_extrapolated_fit_tight : (κs : _) (a : _) (r r' : Result (Unit {0}) Refusal) (s s' : _) → compute_extrapolated_fit_sparse-reads.Post κs a r s
    → compute_extrapolated_fit_sparse-reads.Post κs a r' s'
    → (r ≡ r') × (s.1.1.1.1.1.0.now ≡ s'.1.1.1.1.1.0.now)
compute_extrapolated_fit_tight κs a r r' s s' p q = (one_outcome r r' (coincide p.0 q.0), coincide p.1 q.1)

-- ---- what a thin function promises of a view, the call below promises of its matrix
abbrev matrix_of : CSCArray → ℕ → ℕ → Matrix
matrix_of d n p = record { shape = csc_shape n p; starts = d.starts; rows = d.rows; values = d.values }

-- x is a matrix lent, and its contents the view's; a and s are the parameters behind it, before and after
module _ (d : CSCArray) (n p : ℕ) (x : Bor Matrix) (h : x.now ≡ matrix_of d n p) where
  prepare_sparse_promises : (κs κs' : _) (a r s : _)
      → prepare_sparse-reads.Post κs (d, (n, (p, a))) r (d, (n, (p, s))) ≡ prepare-reads.Post κs' (x, a) r (x, s)
  prepare_sparse_promises κs κs' a r s = rw h refl

  solve_sparse_promises : (κs κs' : _) (a r s : _)
      → solve_sparse-reads.Post κs (d, (n, (p, a))) r (d, (n, (p, s))) ≡ solve-reads.Post κs' (x, a) r (x, s)
  solve_sparse_promises κs κs' a r s = rw h refl

  walk_sparse_promises : (κs κs' : _) (a r s : _)
      → walk_sparse-reads.Post κs (d, (n, (p, a))) r (d, (n, (p, s))) ≡ walk-reads.Post κs' (x, a) r (x, s)
  walk_sparse_promises κs κs' a r s = rw h refl

  initialize_sparse_promises : (κs κs' : _) (a r s : _)
      → initialize_sparse-reads.Post κs (d, (n, (p, a))) r (d, (n, (p, s))) ≡ initialize-reads.Post κs' (x, a) r (x, s)
  initialize_sparse_promises κs κs' a r s = rw h refl

  gradient_j_sparse_promises : (κs κs' : _) (a r s : _)
      → gradient_j_sparse-reads.Post κs (d, (n, (p, a))) r (d, (n, (p, s))) ≡ gradient_j-reads.Post κs' (x, a) r (x, s)
  gradient_j_sparse_promises κs κs' a r s = rw h refl

  full_grad_sparse_promises : (κs κs' : _) (a r s : _)
      → full_grad_sparse-reads.Post κs (d, (n, (p, a))) r (d, (n, (p, s))) ≡ full_grad-reads.Post κs' (x, a) r (x, s)
  full_grad_sparse_promises κs κs' a r s = rw h refl

  update_model_fit_sparse_promises : (κs κs' : _) (a r s : _)
      → update_model_fit_sparse-reads.Post κs (d, (n, (p, a))) r (d, (n, (p, s))) ≡ update_model_fit-reads.Post κs' (x, a) r (x, s)
  update_model_fit_sparse_promises κs κs' a r s = rw h refl

  compute_extrapolated_fit_sparse_promises : (κs κs' : _) (a r s : _)
      → compute_extrapolated_fit_sparse-reads.Post κs (d, (n, (p, a))) r (d, (n, (p, s))) ≡ compute_extrapolated_fit-reads.Post κs' (x, a) r (x, s)
  compute_extrapolated_fit_sparse_promises κs κs' a r s = rw h refl

-- the one that takes the slices
compute_alpha_max_sparse_promises : (κs κs' : _) (d : CSCArray) (n p : ℕ) (a r s : _)
    → compute_alpha_max_sparse-reads.Post κs (d, (n, (p, a))) r (d, (n, (p, s)))
    ≡ slices-reads.Post κs' (n, (p, (d.starts, (d.rows, (d.values, a))))) r (n, (p, (d.starts, (d.rows, (d.values, s)))))
compute_alpha_max_sparse_promises κs κs' d n p a r s = refl

-- and the two that the view has to itself
new_promises : (κs : _) (a : _) (r : CSCArray) (s : _)
    → new-reads.Post κs a r s ≡ ((r.starts ≡ a.0) × (r.rows ≡ a.1.0) × (r.values ≡ a.1.1.0))
new_promises κs a r s = refl

check_promises : (κs : _) (d : CSCArray) (n p : ℕ) (a r s : _)
    → check-reads.Post κs (d, (n, (p, a))) r s ≡ (outcome_of r ≡ design_fault (given (csc_shape n p) d.starts.now d.rows.now d.values.now []))
check_promises κs d n p a r s = refl
