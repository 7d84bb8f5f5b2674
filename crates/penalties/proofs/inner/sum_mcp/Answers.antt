-- `sum_mcp`: its term is the MCP of a weight. Assumes nothing.
use Rattle.std.proofs.Common.{of_calls}
use Rattle.penalties.specs.Penalty.{mcp_of, sum_mcp}
use Rattle.penalties.proofs.inner.sum_mcp.Goals as goal

pub returns : goal.returns
unfolding sum_mcp
returns c = c.sum_of.ensures (mcp_of c.args.alpha c.args.gamma) (λ x r h. search of_calls)
