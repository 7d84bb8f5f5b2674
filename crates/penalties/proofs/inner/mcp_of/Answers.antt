-- `mcp_of` goes by the test of its definition. Assumes nothing.
use Rattle.penalties.specs.Penalty.{mcp_of}
use Rattle.penalties.proofs.inner.mcp_of.Goals as goal

pub returns-then-size-gamma : goal.returns-then-size-gamma
unfolding mcp_of
returns-then-size-gamma c = rw (← c.abs-size.ensures, c.if-size-gamma.true)

pub returns-else-size-gamma : goal.returns-else-size-gamma
unfolding mcp_of
returns-else-size-gamma c = rw (← c.abs-size.ensures, c.if-size-gamma.false)
