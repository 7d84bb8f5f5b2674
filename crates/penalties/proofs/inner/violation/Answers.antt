-- `violation` goes by the penalty's cases. Assumes nothing.
use Rattle.penalties.specs.Penalty.{violation}
use Rattle.penalties.proofs.inner.violation.Goals as goal

pub returns-in-L1 : goal.returns-in-L1
unfolding violation
returns-in-L1 c = rw c.in-L1.is c.violation_l1.ensures

pub returns-in-L1PlusL2 : goal.returns-in-L1PlusL2
unfolding violation
returns-in-L1PlusL2 c = rw c.in-L1PlusL2.is c.violation_l1_plus_l2.ensures

pub returns-in-MCP : goal.returns-in-MCP
unfolding violation
returns-in-MCP c = rw c.in-MCP.is c.violation_mcp.ensures
