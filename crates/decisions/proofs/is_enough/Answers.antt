-- `is_enough`: with all features chosen against the tolerance, else against 0.3 of the outer violation. Assumes nothing.
use Rattle.decisions.proofs.is_enough.Goals as goal

pub returns-then-everything : goal.returns-then-everything
returns-then-everything c = rw c.if-everything.true

pub returns-else-everything : goal.returns-else-everything
returns-else-everything c = rw c.if-everything.false
