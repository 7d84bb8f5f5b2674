-- `prox_mcp` goes by the tests of its definition. Assumes nothing.
use Rattle.penalties.specs.Penalty.{prox_mcp}
use Rattle.penalties.proofs.separable.prox_mcp.Goals as goal

pub returns-then-size-tau : goal.returns-then-size-tau
unfolding prox_mcp
returns-then-size-tau c = rw (← c.abs-size.ensures, c.if-size-tau.true)

pub returns-then-size-g : goal.returns-then-size-g
unfolding prox_mcp
returns-then-size-g c = rw (← c.abs-size.ensures, c.if-size-tau.false, c.if-size-g.true)

pub returns-else-size-g : goal.returns-else-size-g
unfolding prox_mcp
returns-else-size-g c = rw (← c.abs-size.ensures, c.if-size-tau.false, c.if-size-g.false, ← c.signum.ensures)
