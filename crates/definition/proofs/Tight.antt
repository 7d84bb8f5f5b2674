-- Any two outcomes that a public promise allows coincide. `Post` is the promise as the check reads it. Assumes nothing.
use Rattle.std.proofs.Common.{◌≡◌, ℕ}
use Rattle.doubles.proofs.Tight.{coincide}
use Rattle.definition.specs.declared.problem.Task.{Task}
use Rattle.definition.proofs.Status.number.Reads as number_reads
use Rattle.definition.proofs.problem.Problem.task.Reads as task_reads

number_tight : (a : _) (r r' : ℕ) (s : _) → number_reads.Post tt a r s → number_reads.Post tt a r' s → r ≡ r'
number_tight a r r' s p q = coincide p q

task_tight : (κs : _) (a : _) (r r' : Task) (s : _) → task_reads.Post κs a r s → task_reads.Post κs a r' s
    → (r.x ≡ r'.x) × (r.penalty ≡ r'.penalty) × (r.prepared ≡ r'.prepared)
task_tight κs a r r' s p q = (coincide p.0 q.0, coincide p.1 q.1, coincide p.2 q.2)
