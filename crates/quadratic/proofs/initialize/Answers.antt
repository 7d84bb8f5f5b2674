-- `initialize`: the preparation, lent the first 2p places. Assumes nothing.
use Prim.Native.Nat.{◌+◌}
use Rattle.doubles.proofs.Laws.Buffer.{put_front}
use Rattle.quadratic.proofs.initialize.Goals as goal

pub returns : goal.returns
returns c =
    put_front c.args.prepared.now (c.args.x.now.matrix.shape.p + c.args.x.now.matrix.shape.p)
    c.prepare.new.buf _ c.requires.1 c.prepare.auto.buf
    c.prepare.ensures
