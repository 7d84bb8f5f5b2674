-- `largest_of`: the inner function, lent the first p places. Assumes nothing.
use Rattle.doubles.proofs.Laws.Buffer.{put_front}
use Rattle.quadratic.proofs.largest_of.Goals as goal

pub returns : goal.returns
returns c = (
  c.alpha_max.ensures.0,
  put_front c.args.xty.now c.args.x.now.matrix.shape.p c.alpha_max.new.xty _ c.requires.1
      c.alpha_max.auto.xty c.alpha_max.ensures.1,
)
