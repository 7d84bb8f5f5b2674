-- `second_in_range` goes by the penalty's cases; each number is tested by its own function. Assumes nothing.
use Rattle.penalties.specs.Penalty.{second_legal}
use Rattle.penalties.proofs.inner.second_in_range.Goals as goal

pub returns-in-L1 : goal.returns-in-L1
unfolding second_legal
returns-in-L1 c = rw c.in-L1.is

pub returns-in-L1PlusL2 : goal.returns-in-L1PlusL2
unfolding second_legal
returns-in-L1PlusL2 c = rw c.in-L1PlusL2.is c.ratio_in_range.ensures

pub returns-in-MCP : goal.returns-in-MCP
unfolding second_legal
returns-in-MCP c = rw c.in-MCP.is c.gamma_in_range.ensures
