-- The kernels of one column of a dense design: 1 and 3 are tested, in this order, and no number of the design.
use Rattle.std.specs.Prelude.{ℕ, List, leb, ltb, length, Float}
use Rattle.doubles.specs.Num.{◌and◌}
use Rattle.designs.specs.Design.{dense, dense_shape, nothing, dot, moved}
use Rattle.doubles.specs.Answer.{Fault, none, unless, left}
use Rattle.designs.specs.Checks.{sizes}

-- "a feature number at or above p is 1"; 3 where the list that the column meets, of so many places, has fewer than n
unfoldable pub kernel_fault : ℕ → ℕ → List Float → ℕ → ℕ → Fault
kernel_fault n p values column places =
    unless (sizes (dense_shape n p) nothing nothing values and ltb column p) 1
    (unless (leb n places) 3 none)

-- column · v; refused, what stood there
unfoldable pub product_left : ℕ → ℕ → List Float → ℕ → List Float → Float → Float
product_left n p values column v old = left (kernel_fault n p values column (length v)) (dot (dense n p values) column v) old

-- the fit with d times the column added to its first n places; refused, unchanged
unfoldable pub update_left : ℕ → ℕ → List Float → ℕ → Float → List Float → List Float
update_left n p values column d fit = left (kernel_fault n p values column (length fit)) (moved (dense n p values) column d fit) fit
