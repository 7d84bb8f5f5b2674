-- `solve_tested`: the run on the first places of each slice, which have its room. Assumes nothing.
use mathlib.Core.Path.{refl}
use Rattle.doubles.proofs.Laws.Buffer.{put_front}
use Rattle.definition.specs.Call.{lent, solved}
use Rattle.definition.specs.Inner.Problem.{task_in}
use Rattle.solvers.proofs.Laws.Calls.{buffers-left}
use Rattle.solvers.proofs.solve_tested.Goals as goal

pub returns : goal.returns
returns c =
    let run = c.solve_inside in
    let a = c.args in
    let P = a.problem.now in
    let s = P.x.matrix.shape in
    let last = run.new in
    let kept = run.auto in
    let room = c.scratch_room-room.result in
    let weights = put_front a.w.now s.p last.w _ c.requires.0 kept.w refl in
    let fit = put_front a.fit.now s.n last.fit _ c.requires.1 kept.fit refl in
    let indices = put_front a.indices.now s.p last.indices _ c.requires.2 kept.indices refl in
    let scratch = put_front a.scratch.now room last.scratch _ (rw c.scratch_room-room.ensures c.requires.3) kept.scratch refl in
    let end = solved (task_in P) P.y.now P.settings in
    let b = lent a.w.now a.fit.now a.indices.now a.scratch.now in
    let left = buffers-left s P.settings b end _ _ _ _ _ _ _ _ run.ensures.1 run.ensures.2 run.ensures.3 in
    (run.ensures.0, left weights fit indices scratch)
