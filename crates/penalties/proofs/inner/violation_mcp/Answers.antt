-- `violation_mcp` goes by the tests of its definition. Assumes nothing.
use Rattle.penalties.specs.Penalty.{violation_mcp}
use Rattle.penalties.proofs.inner.violation_mcp.Goals as goal

pub returns-then-w : goal.returns-then-w
unfolding violation_mcp
returns-then-w c = rw c.if-w.true c.excess.ensures

pub returns-then-abs-alpha : goal.returns-then-abs-alpha
unfolding violation_mcp
returns-then-abs-alpha c =
    rw (
      c.if-w.false,
      ← c.abs.ensures,
      c.if-abs-alpha.true,
      ← c.signum.ensures,
    )
    c.abs-then-abs-alpha.ensures

pub returns-else-abs-alpha : goal.returns-else-abs-alpha
unfolding violation_mcp
returns-else-abs-alpha c = rw (c.if-w.false, ← c.abs.ensures, c.if-abs-alpha.false) c.abs-else-abs-alpha.ensures
