-- The soft threshold, which L1 and L1PlusL2 share.
use Rattle.std.specs.Prelude.{Float}
use Rattle.std.specs.Float.{nan}
use Rattle.std.specs.Float.Ieee.{neg, lt, is_nan}
use Rattle.doubles.specs.Num.{◌⊕◌, ◌⊖◌, #0, pick, ◌or◌}

-- document 01: "Soft threshold: x−t if x > t; x+t if x < −t; else +0.0."
unfoldable pub soft01 : Float → Float → Float
soft01 x t = pick (lt t x) (x ⊖ t) (pick (lt x (neg t)) (x ⊕ t) #0)

-- request 8: "a NaN argument or threshold answers NaN"
unfoldable pub soft : Float → Float → Float
soft x t = pick (is_nan x or is_nan t) nan (soft01 x t)
