-- One sample of the extrapolated fit of a dense design.
use Rattle.std.specs.Prelude.{ℕ, ◌+◌, List, length, get_or, Float}
use Rattle.doubles.specs.Num.{◌⊗◌, at}
use Rattle.doubles.specs.Steps.{sum}

-- what the sample whose row starts at base gets of the weights w at the features ws
unfoldable pub row_fit : List Float → List ℕ → List Float → ℕ → Float
row_fit xs ws w base = sum (λ k. at w (get_or ws k 0) ⊗ at xs (base + get_or ws k 0)) (length ws)
