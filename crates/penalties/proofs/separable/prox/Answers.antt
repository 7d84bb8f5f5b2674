-- `prox` goes by the penalty's cases. Assumes nothing.
use Rattle.penalties.specs.Penalty.{prox}
use Rattle.penalties.proofs.separable.prox.Goals as goal

pub returns-in-L1 : goal.returns-in-L1
unfolding prox
returns-in-L1 c = rw c.in-L1.is c.prox_l1.ensures

pub returns-in-L1PlusL2 : goal.returns-in-L1PlusL2
unfolding prox
returns-in-L1PlusL2 c = rw c.in-L1PlusL2.is c.prox_l1_plus_l2.ensures

pub returns-in-MCP : goal.returns-in-MCP
unfolding prox
returns-in-MCP c = rw c.in-MCP.is c.prox_mcp.ensures
