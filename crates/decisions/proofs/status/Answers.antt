-- `status`: by one comparison. Assumes nothing.
use Rattle.decisions.proofs.status.Goals as goal

pub returns-then-violation-tolerance : goal.returns-then-violation-tolerance
returns-then-violation-tolerance c = rw c.if-violation-tolerance.true

pub returns-else-violation-tolerance : goal.returns-else-violation-tolerance
returns-else-violation-tolerance c = rw c.if-violation-tolerance.false
