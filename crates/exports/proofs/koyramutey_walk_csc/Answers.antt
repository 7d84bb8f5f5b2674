-- `koyramutey_walk_csc`: the walk over a CSC design with the settings that the numbers stand for, and its answer in numbers. Assumes nothing.
use Rattle.plain_numbers.proofs.Laws.Codes.{csc_given, walked}
use Rattle.exports.proofs.koyramutey_walk_csc.Goals as goal

pub returns : goal.returns
returns c =
    let g = csc_given c.csc.result c.args.y.now c.csc.ensures in
    walked _ _ g c.settings_of-settings.ensures _ _ _ c.walk-walked.ensures c.tell_walk.ensures
