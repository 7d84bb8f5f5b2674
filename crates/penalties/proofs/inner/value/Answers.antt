-- `value` goes by the penalty's cases. Assumes nothing.
use Rattle.penalties.specs.Penalty.{value}
use Rattle.penalties.proofs.inner.value.Goals as goal

pub returns-in-L1 : goal.returns-in-L1
unfolding value
returns-in-L1 c = rw (c.in-L1.is, c.sum_abs.ensures)

pub returns-in-L1PlusL2 : goal.returns-in-L1PlusL2
unfolding value
returns-in-L1PlusL2 c = rw (c.in-L1PlusL2.is, c.sum_abs-in-L1PlusL2.ensures, c.sum_squares.ensures)

pub returns-in-MCP : goal.returns-in-MCP
unfolding value
returns-in-MCP c = rw c.in-MCP.is c.sum_mcp.ensures
