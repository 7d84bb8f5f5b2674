-- "A penalty is one of three, each with its own numbers": value, prox and violation, in document 01's order of rounded operations.
use Rattle.std.specs.Prelude.{Bool, true, List, leb, length, Float}
use Rattle.std.specs.Float.Ieee.{neg, lt, le, eq}
use Rattle.doubles.specs.Num.{◌⊕◌, ◌⊖◌, ◌⊗◌, ◌⊘◌, #0, #½, #1, #2, at, pick, ◌and◌, abs, signum, finite}
use Rattle.doubles.specs.Steps.{sum}
use Rattle.doubles.specs.Answer.{Outcome, Fault, none, unless_at, unless, after}
use Rattle.penalties.specs.Soft.{soft}
use Rattle.penalties.specs.declared.separable.Penalty.{Penalty}
use Rattle.penalties.specs.declared.separable.Penalty.TheVariants.{L1, L1PlusL2, MCP}

-- ---- ranges
-- "Tolerance and alpha are finite and at least 0"
unfoldable pub alpha_legal : Float → Bool
alpha_legal alpha = finite alpha and le #0 alpha

-- "l1_ratio is 0 to 1"
unfoldable pub ratio_legal : Float → Bool
ratio_legal r = le #0 r and le r #1

-- "gamma is finite and above 0"
unfoldable pub gamma_legal : Float → Bool
gamma_legal gamma = finite gamma and lt #0 gamma

abbrev pub alpha_of : Penalty → Float
alpha_of (L1 alpha) = alpha
alpha_of (L1PlusL2 alpha r) = alpha
alpha_of (MCP alpha gamma) = alpha

-- the same penalty with another alpha
abbrev pub with_alpha : Penalty → Float → Penalty
with_alpha (L1 alpha) a = L1 a
with_alpha (L1PlusL2 alpha r) a = L1PlusL2 a r
with_alpha (MCP alpha gamma) a = MCP a gamma

-- L1 has no second number
unfoldable pub second_legal : Penalty → Bool
second_legal (L1 alpha) = true
second_legal (L1PlusL2 alpha r) = ratio_legal r
second_legal (MCP alpha gamma) = gamma_legal gamma

-- 2, request 1: alpha is the setting 5, the second number the setting 6
unfoldable pub penalty_fault : Penalty → Fault
penalty_fault p =
    unless_at (alpha_legal (alpha_of p)) 2 5
    (unless_at (second_legal p) 2 6
    none)

-- ---- value
-- Σ|w|, features upward
unfoldable pub sum_abs : List Float → Float
sum_abs w = sum (λ j. abs (at w j)) (length w)

-- Σw²
unfoldable pub sum_squares : List Float → Float
sum_squares w = sum (λ j. at w j ⊗ at w j) (length w)

-- "MCP: per weight alpha·|w| − w²/(2·gamma) if |w| < gamma·alpha, else (gamma·alpha²)/2"
unfoldable pub mcp_of : Float → Float → Float → Float
mcp_of alpha gamma w =
    pick (lt (abs w) (gamma ⊗ alpha)) (alpha ⊗ abs w ⊖ w ⊗ w ⊘ (#2 ⊗ gamma)) (gamma ⊗ (alpha ⊗ alpha) ⊘ #2)

unfoldable pub sum_mcp : Float → Float → List Float → Float
sum_mcp alpha gamma w = sum (λ j. mcp_of alpha gamma (at w j)) (length w)

-- "L1: value alpha·Σ|w|"; "L1PlusL2, r its ratio: value alpha·(r·Σ|w| + (0.5·(1−r))·Σw²)"
unfoldable pub value : Penalty → List Float → Float
value (L1 alpha) w = alpha ⊗ sum_abs w
value (L1PlusL2 alpha r) w = alpha ⊗ (r ⊗ sum_abs w ⊕ #½ ⊗ (#1 ⊖ r) ⊗ sum_squares w)
value (MCP alpha gamma) w = sum_mcp alpha gamma w

-- ---- prox
-- "L1: .. prox threshold alpha·step"
unfoldable pub prox_l1 : Float → Float → Float → Float
prox_l1 alpha v step = soft v (alpha ⊗ step)

-- "prox soft(v, (r·alpha)·step) / (1 + (step·(1−r))·alpha)"
unfoldable pub prox_l1_plus_l2 : Float → Float → Float → Float → Float
prox_l1_plus_l2 alpha r v step = soft v (r ⊗ alpha ⊗ step) ⊘ (#1 ⊕ step ⊗ (#1 ⊖ r) ⊗ alpha)

-- "Prox with tau = alpha·step, g = gamma/step: 0 if |v| ≤ tau; v if |v| > g·tau; else (sign·(|v|−tau))/(1−1/g)"
unfoldable pub prox_mcp : Float → Float → Float → Float → Float
prox_mcp alpha gamma v step =
    let tau = alpha ⊗ step in
    let g = gamma ⊘ step in
    pick (le (abs v) tau) #0 (pick (lt (g ⊗ tau) (abs v)) v (signum v ⊗ (abs v ⊖ tau) ⊘ (#1 ⊖ #1 ⊘ g)))

unfoldable pub prox : Penalty → Float → Float → Float
prox (L1 alpha) v step = prox_l1 alpha v step
prox (L1PlusL2 alpha r) v step = prox_l1_plus_l2 alpha r v step
prox (MCP alpha gamma) v step = prox_mcp alpha gamma v step

-- ---- violation
-- "Violation at w=0: |g|−alpha if positive, else +0"
unfoldable pub excess : Float → Float → Float
excess g bound = pick (lt #0 (abs g ⊖ bound)) (abs g ⊖ bound) #0

-- "otherwise |−g − sign(w)·alpha|"
unfoldable pub violation_l1 : Float → Float → Float → Float
violation_l1 alpha w g = pick (eq w #0) (excess g alpha) (abs (neg g ⊖ signum w ⊗ alpha))

-- "Violation at 0: as L1 with alpha·r; otherwise |−g − alpha·(sign·r + (1−r)·w)|"
unfoldable pub violation_l1_plus_l2 : Float → Float → Float → Float → Float
violation_l1_plus_l2 alpha r w g =
    pick (eq w #0) (excess g (alpha ⊗ r)) (abs (neg g ⊖ alpha ⊗ (signum w ⊗ r ⊕ (#1 ⊖ r) ⊗ w)))

-- "Violation at 0 as L1; |g + alpha·sign − w/gamma| if |w| < alpha·gamma; else |g|"
unfoldable pub violation_mcp : Float → Float → Float → Float → Float
violation_mcp alpha gamma w g =
    pick (eq w #0) (excess g alpha) (pick (lt (abs w) (alpha ⊗ gamma)) (abs (g ⊕ alpha ⊗ signum w ⊖ w ⊘ gamma)) (abs g))

unfoldable pub violation : Penalty → Float → Float → Float
violation (L1 alpha) w g = violation_l1 alpha w g
violation (L1PlusL2 alpha r) w g = violation_l1_plus_l2 alpha r w g
violation (MCP alpha gamma) w g = violation_mcp alpha gamma w g

-- ---- the public calls: "Smaller public calls use the numbers that apply to them, in the same order"
-- 1 where the length is outside p's limits, then 2 where a number is outside its range
unfoldable pub penalty_value_call : Penalty → List Float → Outcome Float
penalty_value_call p w =
    unless (leb 1 (length w) and leb (length w) 8192) 1
    (after (penalty_fault p) (value p w))

-- 2 where a number is outside its range
unfoldable pub penalty_violation_call : Penalty → Float → Float → Outcome Float
penalty_violation_call p w g = after (penalty_fault p) (violation p w g)
