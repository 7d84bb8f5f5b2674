-- `full_grad`: all gradients, lent the first p places. Assumes nothing.
use Rattle.doubles.proofs.Laws.Buffer.{put_front}
use Rattle.quadratic.proofs.full_grad.Goals as goal

pub returns : goal.returns
returns c =
    put_front c.args.grad.now c.args.x.now.matrix.shape.p c.all_gradients.new.grad _
    c.requires.3 c.all_gradients.auto.grad c.all_gradients.ensures
