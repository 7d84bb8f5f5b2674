-- `with_alpha` goes by the penalty's cases: the second number stays. Assumes nothing.
use Rattle.penalties.proofs.inner.with_alpha.Goals as goal

pub returns-in-L1 : goal.returns-in-L1
returns-in-L1 c = rw c.in-L1.is

pub returns-in-L1PlusL2 : goal.returns-in-L1PlusL2
returns-in-L1PlusL2 c = rw c.in-L1PlusL2.is

pub returns-in-MCP : goal.returns-in-MCP
returns-in-MCP c = rw c.in-MCP.is
