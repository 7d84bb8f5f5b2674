-- `koyramutey_solve_dense`: the solve of a dense design with the settings that the numbers stand for, and its answer in numbers. Assumes nothing.
use Rattle.plain_numbers.proofs.Laws.Codes.{dense_given, called}
use Rattle.exports.proofs.koyramutey_solve_dense.Goals as goal

pub returns : goal.returns
returns c =
    let g = dense_given c.dense.result c.args.y.now c.dense.ensures in
    called _ _ g c.settings_of-settings.ensures _ c.solve-done.ensures c.tell.ensures
