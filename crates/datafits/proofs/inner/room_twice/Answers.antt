-- `room_twice` compares half the length. Assumes nothing.
use lib.ListN.{length}
use Rattle.datafits.proofs.Laws.Calls.{halved}
use Rattle.datafits.proofs.inner.room_twice.Goals as goal

pub returns : goal.returns
returns c = halved c.args.p (length c.args.buf.now)
