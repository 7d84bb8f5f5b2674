-- `koyramutey_walk_dense`: the walk over a dense design with the settings that the numbers stand for, and its answer in numbers. Assumes nothing.
use Rattle.plain_numbers.proofs.Laws.Codes.{dense_given, walked}
use Rattle.exports.proofs.koyramutey_walk_dense.Goals as goal

pub returns : goal.returns
returns c =
    let g = dense_given c.dense.result c.args.y.now c.dense.ensures in
    walked _ _ g c.settings_of-settings.ensures _ _ _ c.walk-walked.ensures c.tell_walk.ensures
