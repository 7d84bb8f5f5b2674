-- The first of n places, upward, at which something is found.
use Rattle.std.specs.Prelude.{Bool, ℕ, Option, Some, None}
use Rattle.doubles.specs.Num.{pick}
use Rattle.doubles.specs.Steps.{steps}

-- what was found, and where nothing was, b
abbrev pub or_else : Option ℕ → Option ℕ → Option ℕ
or_else (Some k) b = Some k
or_else None b = b

-- what f finds at the first place below n at which it finds anything
abbrev pub first_of : (ℕ → Option ℕ) → ℕ → Option ℕ
first_of f n = steps (λ k r. or_else r (f k)) n None

-- place m is found where it is bad
abbrev pub mark : Bool → ℕ → Option ℕ
mark b m = pick b (Some m) None
