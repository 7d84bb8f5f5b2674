-- Any two outcomes that a public promise allows coincide: the number, the place, the report, a position and what the lent buffers hold. `Post` is the
-- promise as the check reads it: of the arguments, the result and the parameters at exit. Assumes nothing.
use mathlib.Core.Path.{◌≡◌}
use mathlib.Core.List.{List}
use Prim.Native.Nat.{ℕ}
use lib.Ieee.{Float}
use denote.MutBor.{MutBor}
use Rattle.doubles.proofs.Tight.{coincide}
use Rattle.definition.specs.Call.{lent}
use Rattle.plain_numbers.specs.Codes.{Reply, reply, report, WalkReply, told, usable}
use Rattle.exports.proofs.koyramutey_prepare_dense.Reads as prepare-dense_reads
use Rattle.exports.proofs.koyramutey_prepare_csc.Reads as prepare-csc_reads
use Rattle.exports.proofs.koyramutey_solve_dense.Reads as solve-dense_reads
use Rattle.exports.proofs.koyramutey_solve_csc.Reads as solve-csc_reads
use Rattle.exports.proofs.koyramutey_walk_dense.Reads as walk-dense_reads
use Rattle.exports.proofs.koyramutey_walk_csc.Reads as walk-csc_reads
use Rattle.exports.proofs.koyramutey_full_grad_dense.Reads as full_grad_reads
use Rattle.exports.proofs.koyramutey_working_set.Reads as working_set_reads
use Rattle.exports.proofs.koyramutey_penalty_value.Reads as value_reads
use Rattle.exports.proofs.koyramutey_penalty_violation.Reads as violation_reads
use Rattle.exports.proofs.koyramutey_soft_threshold.Reads as soft-threshold_reads
use Rattle.exports.proofs.koyramutey_prox.Reads as prox_reads

-- ---- the two solves
-- the lent parameters that both end with: the buffers, then the report's numbers, then the place
abbrev Ends : Type 0
Ends =
    MutBor (List Float) × (MutBor (List Float) × (MutBor (List ℕ) × (MutBor (List Float)
    × (MutBor ℕ × (MutBor Float × (MutBor ℕ × (MutBor ℕ × (MutBor ℕ × (MutBor ℕ × Unit {0})))))))))

-- what a call left, with its number
abbrev replied : ℕ → Ends → Reply
replied number t =
    let u = t.1.1.1.1 in
    let numbers = report u.0.now u.1.0.now u.1.1.0.now u.1.1.1.0.now u.1.1.1.1.0.now in
    reply number u.1.1.1.1.1.0.now numbers (lent t.0.now t.1.0.now t.1.1.0.now t.1.1.1.0.now)

solve-dense_tight : (κs : _) (a : _) (r r' : _) (s s' : _) → solve-dense_reads.Post κs a r s → solve-dense_reads.Post κs a r' s'
    → replied r s.1.1.1.1.1.1.1.1.1.1.1.1.1.1 ≡ replied r' s'.1.1.1.1.1.1.1.1.1.1.1.1.1.1
solve-dense_tight κs a r r' s s' p q = coincide p q

solve-csc_tight : (κs : _) (a : _) (r r' : _) (s s' : _) → solve-csc_reads.Post κs a r s → solve-csc_reads.Post κs a r' s'
    → replied r s.1.1.1.1.1.1.1.1.1.1.1.1.1.1.1.1 ≡ replied r' s'.1.1.1.1.1.1.1.1.1.1.1.1.1.1.1.1
solve-csc_tight κs a r r' s s' p q = coincide p q

-- ---- the two walks
-- the lent parameters that both end with, behind the prepared numbers and the settings: the buffers, then the report's numbers, the position and the place
abbrev WalkEnds : Type 0
WalkEnds =
    MutBor (List Float) × (MutBor (List Float) × (MutBor (List ℕ) × (MutBor (List Float)
    × (MutBor ℕ × (MutBor Float × (MutBor ℕ × (MutBor ℕ × (MutBor ℕ × (MutBor ℕ × (MutBor ℕ × Unit {0}))))))))))

-- what a call left, with its number; the prepared numbers are m
abbrev found : ℕ → MutBor (List Float) → WalkEnds → WalkReply
found number m t =
    let u = t.1.1.1.1 in
    let numbers = report u.0.now u.1.0.now u.1.1.0.now u.1.1.1.0.now u.1.1.1.1.0.now in
    let v = u.1.1.1.1.1 in
    told number v.1.0.now (usable v.0.now numbers) (lent t.0.now t.1.0.now t.1.1.0.now t.1.1.1.0.now) m.now

walk-dense_tight : (κs : _) (a : _) (r r' : _) (s s' : _) → walk-dense_reads.Post κs a r s → walk-dense_reads.Post κs a r' s'
    → let t = s.1.1.1.1.1 in
    let t' = s'.1.1.1.1.1 in
    found r t.0 t.1.1.1.1.1.1.1.1.1.1 ≡ found r' t'.0 t'.1.1.1.1.1.1.1.1.1.1
walk-dense_tight κs a r r' s s' p q = coincide p q

walk-csc_tight : (κs : _) (a : _) (r r' : _) (s s' : _) → walk-csc_reads.Post κs a r s → walk-csc_reads.Post κs a r' s'
    → let t = s.1.1.1.1.1.1.1 in
    let t' = s'.1.1.1.1.1.1.1 in
    found r t.0 t.1.1.1.1.1.1.1.1.1.1 ≡ found r' t'.0 t'.1.1.1.1.1.1.1.1.1.1
walk-csc_tight κs a r r' s s' p q = coincide p q

-- ---- the two preparations
-- t begins with the prepared numbers, then the place
prepare-dense_tight : (κs : _) (a : _) (r r' : _) (s s' : _) → prepare-dense_reads.Post κs a r s → prepare-dense_reads.Post κs a r' s'
    → let t = s.1.1.1.1 in
    let t' = s'.1.1.1.1 in
    (r ≡ r') × (t.1.0.now ≡ t'.1.0.now) × (t.0.now ≡ t'.0.now)
prepare-dense_tight κs a r r' s s' p q = (coincide p.0 q.0, coincide p.1 q.1, coincide p.2 q.2)

prepare-csc_tight : (κs : _) (a : _) (r r' : _) (s s' : _) → prepare-csc_reads.Post κs a r s → prepare-csc_reads.Post κs a r' s'
    → let t = s.1.1.1.1.1.1 in
    let t' = s'.1.1.1.1.1.1 in
    (r ≡ r') × (t.1.0.now ≡ t'.1.0.now) × (t.0.now ≡ t'.0.now)
prepare-csc_tight κs a r r' s s' p q = (coincide p.0 q.0, coincide p.1 q.1, coincide p.2 q.2)

-- ---- the others
full_grad-dense_tight : (κs : _) (a : _) (r r' : _) (s s' : _) → full_grad_reads.Post κs a r s → full_grad_reads.Post κs a r' s'
    → (r ≡ r') × (s.1.1.1.1.1.0.now ≡ s'.1.1.1.1.1.0.now) × (s.1.1.1.1.1.1.0.now ≡ s'.1.1.1.1.1.1.0.now)
full_grad-dense_tight κs a r r' s s' p q = (coincide p.0 q.0, coincide p.2 q.2, coincide p.1 q.1)

-- t begins with the index places, then the size and the place
working_set_tight : (κs : _) (a : _) (r r' : _) (s s' : _) → working_set_reads.Post κs a r s → working_set_reads.Post κs a r' s'
    → let t = s.1.1.1 in
    let t' = s'.1.1.1 in
    (r ≡ r') × (t.1.1.0.now ≡ t'.1.1.0.now) × (t.1.0.now ≡ t'.1.0.now) × (t.0.now ≡ t'.0.now)
working_set_tight κs a r r' s s' p q = (coincide p.0 q.0, coincide p.1 q.1, coincide p.2 q.2, coincide p.3 q.3)

-- ---- the leaves
-- behind the penalty's three numbers, the weights, or weight and gradient, come the answer and the place
penalty-value_tight : (κs : _) (a : _) (r r' : _) (s s' : _) → value_reads.Post κs a r s → value_reads.Post κs a r' s'
    → let t = s.1.1.1.1 in
    let t' = s'.1.1.1.1 in
    (r ≡ r') × (t.1.0.now ≡ t'.1.0.now) × (t.0.now ≡ t'.0.now)
penalty-value_tight κs a r r' s s' p q = (coincide p.0 q.0, coincide p.1 q.1, coincide p.2 q.2)

penalty-violation_tight : (κs : _) (a : _) (r r' : _) (s s' : _) → violation_reads.Post κs a r s → violation_reads.Post κs a r' s'
    → let t = s.1.1.1.1.1 in
    let t' = s'.1.1.1.1.1 in
    (r ≡ r') × (t.1.0.now ≡ t'.1.0.now) × (t.0.now ≡ t'.0.now)
penalty-violation_tight κs a r r' s s' p q = (coincide p.0 q.0, coincide p.1 q.1, coincide p.2 q.2)

soft-threshold_tight : (a : _) (r r' : Float) (s : _) → soft-threshold_reads.Post tt a r s → soft-threshold_reads.Post tt a r' s → r ≡ r'
soft-threshold_tight a r r' s p q = coincide p q

prox_tight : (a : _) (r r' : Float) (s : _) → prox_reads.Post tt a r s → prox_reads.Post tt a r' s → r ≡ r'
prox_tight a r r' s p q = coincide p q
