-- The task of a problem is the definition's. Assumes nothing.
use mathlib.Core.Path.{◌≡◌}
use Rattle.definition.specs.Epoch as def
use Rattle.definition.specs.Inner.Problem.{as_task, task_in}
use Rattle.definition.specs.declared.problem.Problem.{Problem}
use Rattle.definition.specs.declared.problem.Task.{Task}

pub task_is : (t : Task) (P : Problem) → (t.x ≡ P.x) × (t.penalty ≡ P.settings.penalty) × (t.prepared ≡ P.prepared) → as_task t ≡ task_in P
task_is t P h =
    λ i. (let x = (h.0 i).matrix in def.task x.shape x.starts.now x.rows.now x.values.now (h.1 i) (h.2 i).now)
