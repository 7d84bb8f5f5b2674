-- `compute_extrapolated_fit`: the inner function on the first p weights, lent the first n places. Assumes nothing.
use Rattle.doubles.proofs.Laws.Buffer.{put_front}
use Rattle.quadratic.proofs.compute_extrapolated_fit.Goals as goal

pub returns : goal.returns
returns c =
    put_front c.args.fit.now c.args.x.now.matrix.shape.n c.extrapolated_fit.new.fit _
    c.requires.2 c.extrapolated_fit.auto.fit c.extrapolated_fit.ensures
