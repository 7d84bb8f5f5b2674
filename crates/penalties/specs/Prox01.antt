-- Document 01's prox, whose soft threshold answers +0.0 to a NaN. No promise cites it: it is kept for one statement, that fits answer as they did
-- before request 8 (endings/specs/Thresholds.antt).
use Rattle.std.specs.Prelude.{Float}
use Rattle.doubles.specs.Num.{◌⊕◌, ◌⊖◌, ◌⊗◌, ◌⊘◌, #1}
use Rattle.penalties.specs.Soft.{soft01}
use Rattle.penalties.specs.Penalty.{prox_mcp}
use Rattle.penalties.specs.declared.separable.Penalty.{Penalty}
use Rattle.penalties.specs.declared.separable.Penalty.TheVariants.{L1, L1PlusL2, MCP}

-- what the value is compared with
unfoldable pub threshold_of : Penalty → Float → Float
threshold_of (L1 alpha) step = alpha ⊗ step
threshold_of (L1PlusL2 alpha r) step = r ⊗ alpha ⊗ step
threshold_of (MCP alpha gamma) step = alpha ⊗ step

unfoldable pub prox01 : Penalty → Float → Float → Float
prox01 (L1 alpha) v step = soft01 v (alpha ⊗ step)
prox01 (L1PlusL2 alpha r) v step = soft01 v (r ⊗ alpha ⊗ step) ⊘ (#1 ⊕ step ⊗ (#1 ⊖ r) ⊗ alpha)
prox01 (MCP alpha gamma) v step = prox_mcp alpha gamma v step
