-- Any two outcomes that the public promise allows coincide: a reading by cases loses nothing. Assumes nothing.
use mathlib.Core.Path.{◌≡◌, refl, sym, ap}
use Rattle.std.specs.Prelude.{List, Float, Result, Ok, Err}
use Rattle.doubles.specs.Answer.{answered}
use Rattle.doubles.proofs.Tight.{coincide, one_refusal}
use Rattle.elimination.specs.Answer.{solved, ending_of, Eliminated, solution_of}
use Rattle.elimination.specs.declared.helpers.Unsolved.{Unsolved}
use Rattle.elimination.specs.declared.helpers.NoSolution.{NoSolution}
use Rattle.elimination.proofs.helpers.solve_lin_sys.Reads as solve_reads

-- ---- a reading loses nothing
one_ending : (a b : Unsolved) → ending_of a ≡ ending_of b → a ≡ b
one_ending (Unsolved.Refused r) (Unsolved.Refused s) e = ap Unsolved.Refused (one_refusal r s e)
one_ending (Unsolved.Refused r) Unsolved.Singular e = cc
one_ending Unsolved.Singular (Unsolved.Refused s) e = cc
one_ending Unsolved.Singular Unsolved.Singular e = refl

-- what ends without a solution is not solved
unsolved : (a : Unsolved) → answered solved ≡ ending_of a → ⊥
unsolved (Unsolved.Refused r) e = cc
unsolved Unsolved.Singular e = cc

one_solution : (a b : Result (List Float) NoSolution) → solution_of a ≡ solution_of b → a ≡ b
one_solution (Ok x) (Ok y) e = ap Ok (ap (λ (x : Eliminated). x.z) e)
one_solution (Ok x) (Err n) e = absurd (unsolved n.why (ap (λ (x : Eliminated). x.ending) e))
one_solution (Err n) (Ok y) e = absurd (unsolved n.why (sym (ap (λ (x : Eliminated). x.ending) e)))
one_solution (Err m) (Err n) e =
    let p : m.why ≡ n.why = one_ending m.why n.why (ap (λ (x : Eliminated). x.ending) e) in
    let q : m.z ≡ n.z = ap (λ (x : Eliminated). x.z) e in
    ap Err (λ i. record { why = p i; z = q i })

-- ---- the public call
solve_tight : (a : _) (r r' : Result (List Float) NoSolution) (s : _) → solve_reads.Post tt a r s → solve_reads.Post tt a r' s → r ≡ r'
solve_tight a r r' s p q = one_solution r r' (coincide p q)
