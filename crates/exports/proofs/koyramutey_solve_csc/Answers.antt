-- `koyramutey_solve_csc`: the solve of a CSC design with the settings that the numbers stand for, and its answer in numbers. Assumes nothing.
use Rattle.plain_numbers.proofs.Laws.Codes.{csc_given, called}
use Rattle.exports.proofs.koyramutey_solve_csc.Goals as goal

pub returns : goal.returns
returns c =
    let g = csc_given c.csc.result c.args.y.now c.csc.ensures in
    called _ _ g c.settings_of-settings.ensures _ c.solve-done.ensures c.tell.ensures
