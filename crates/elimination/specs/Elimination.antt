-- "Elimination has no pivoting: zero pivots are passed over, and any zero on the final diagonal means singular." The steps are the Rust's.
use Rattle.std.specs.Prelude.{Bool, not, List, [], ℕ, ◌+◌, ◌-◌, ltb, get_or, set, replicate, Float}
use Rattle.std.specs.Float.Ieee.{eq}
use Rattle.doubles.specs.Num.{◌⊖◌, ◌⊗◌, ◌⊘◌, #0, at, pick, ◌or◌}
use Rattle.doubles.specs.Steps.{steps, all, upward, downward}
use Rattle.doubles.specs.Answer.{refused, answered}
use Rattle.elimination.specs.Answer.{singular, solved, Eliminated}

-- a system: rows of doubles; "one right-hand column", at place `size`
abbrev pub Matrix : Type 0
Matrix = List (List Float)

abbrev pub row : Matrix → ℕ → List Float
row m i = get_or m i []

abbrev pub cell : Matrix → ℕ → ℕ → Float
cell m i k = at (row m i) k

-- the row without factor · source, at places `from` to `size`
unfoldable pub reduced : Float → List Float → ℕ → ℕ → List Float → List Float
reduced factor source from size r = upward (λ k x. set x k (at x k ⊖ factor ⊗ at source k)) from (size + 1) r

-- row t loses its place i by a multiple of row i; "zero pivots are passed over"
unfoldable pub cleared : ℕ → ℕ → ℕ → ℕ → Matrix → Matrix
cleared i from size t m =
    pick (eq (cell m i i) #0) m
    (set m t (reduced (cell m t i ⊘ cell m i i) (row m i) from size (row m t)))

-- the rows below pivot i, downward, from the pivot's column on
unfoldable pub cleared_below : ℕ → ℕ → Matrix → Matrix
cleared_below size i m = upward (cleared i i size) (i + 1) size m

-- pivots 0 .. size - 2
unfoldable pub echelon : ℕ → Matrix → Matrix
echelon size m = steps (cleared_below size) (size - 1) m

-- the rows above pivot i, upward, and of each the whole row
unfoldable pub cleared_above : ℕ → ℕ → Matrix → Matrix
cleared_above size i m = downward (cleared i 0 size) i i m

-- pivots size - 1 .. 1
unfoldable pub back_substituted : ℕ → Matrix → Matrix
back_substituted size m = downward (cleared_above size) size (size - 1) m

-- "any zero on the final diagonal means singular"
unfoldable pub regular : ℕ → Matrix → Bool
regular size m = all (λ i. not (eq (cell m i i) #0)) size

-- the right-hand column over the diagonal; "its unused solution places .. are +0"
unfoldable pub read_off : ℕ → Matrix → List Float
read_off size m = steps (λ i z. set z i (cell m i size ⊘ cell m i i)) size (replicate 10 #0)

-- both passes
unfoldable pub eliminated : ℕ → Matrix → Matrix
eliminated size m = back_substituted size (echelon size m)

-- "all ten when singular, are +0"
unfoldable pub solution : ℕ → Matrix → Eliminated
solution size m =
    pick (regular size m)
    (record { ending = answered solved; z = read_off size m })
    (record { ending = answered singular; z = replicate 10 #0 })

abbrev pub refused_size : Eliminated
refused_size = record { ending = refused 1 0; z = replicate 10 #0 }

-- the public call: "Elimination of a size outside 1 to 10 gives 1"
unfoldable pub solve_call : ℕ → Matrix → Eliminated
solve_call size m =
    pick (ltb size 1 or ltb 10 size) refused_size
    (solution size (eliminated size m))
