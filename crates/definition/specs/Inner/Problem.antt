-- What a problem behind its tests is in the definition's words: what was given, and the task of a run.
use Rattle.designs.specs.Given.{Given, handed}
use Rattle.definition.specs.Epoch as def
use Rattle.definition.specs.declared.problem.Problem.{Problem}
use Rattle.definition.specs.declared.problem.Task.{Task}

abbrev pub as_task : Task → def.Task
as_task t =
    let x = t.x.matrix in
    def.task x.shape x.starts.now x.rows.now x.values.now t.penalty t.prepared.now

abbrev pub given_in : Problem → Given
given_in p = handed p.x.matrix p.y.now

abbrev pub task_in : Problem → def.Task
task_in p =
    let x = p.x.matrix in
    def.task x.shape x.starts.now x.rows.now x.values.now p.settings.penalty p.prepared.now
