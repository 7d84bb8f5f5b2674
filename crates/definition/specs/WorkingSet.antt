-- "Size = max(start, min(2·nonzero weights, p)). Contents: all features with nonzero weight in index order, then the others by falling violation,
-- equal ones by lower index, cut at the size." Here p is the number of weights w, and v holds the violations.
use Rattle.std.specs.Prelude.{Bool, List, [], ◌∷◌, ◌++◌, ℕ, ◌*◌, ◌-◌, ltb, length, take, Float}
use Rattle.std.specs.Float.Ieee.{lt, eq}
use Rattle.doubles.specs.Num.{#0, at, pick}
use Rattle.doubles.specs.Steps.{steps, tab}

-- a weight of +0 or -0; "a NaN weight counts as nonzero"
abbrev pub is_zero : List Float → ℕ → Bool
is_zero w j = eq (at w j) #0

abbrev pub smaller : ℕ → ℕ → ℕ
smaller a b = pick (ltb b a) b a

abbrev pub greater : ℕ → ℕ → ℕ
greater a b = pick (ltb a b) b a

-- "all features with nonzero weight in index order", of the first n features
unfoldable pub support : List Float → ℕ → List ℕ
support w n = steps (λ j l. pick (is_zero w j) l (l ++ (j ∷ []))) n []

-- "nonzero weights"
abbrev pub nonzeros : List Float → ℕ
nonzeros w = length (support w (length w))

-- "Size = max(start, min(2·nonzero weights, p))"
unfoldable pub size : ℕ → List Float → ℕ
size start w = greater start (smaller (2 * length (support w (length w))) (length w))

-- j among features that stand by falling violation: behind those with an equal one, which are lower, and before the first with a smaller one
unfoldable pub insert : List Float → ℕ → List ℕ → List ℕ
insert v j [] = j ∷ []
insert v j (k ∷ l) = pick (lt (at v k) (at v j)) (j ∷ (k ∷ l)) (k ∷ insert v j l)

-- "then the others by falling violation, equal ones by lower index", of the first n features
unfoldable pub others : List Float → List Float → ℕ → List ℕ
others v w n = steps (λ j l. pick (is_zero w j) (insert v j l) l) n []

-- "cut at the size". The support comes first and is never cut, since the size is at least its length: no support weight loses its place to a tie
unfoldable pub working_set : ℕ → List Float → List Float → List ℕ
working_set start v w = take (size start w) (support w (length w) ++ others v w (length w))

-- "its p index places get the set, then 0"
unfoldable pub padded : List ℕ → ℕ → List ℕ
padded ws p = ws ++ tab (λ k. 0) (p - length ws)
