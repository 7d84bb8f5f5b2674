-- One epoch's visits, and the violations: "Each epoch visits the working set in order and skips columns with Lipschitz constant 0."
use Rattle.std.specs.Prelude.{Bool, List, ℕ, ◌+◌, length, get_or, set, Float}
use Rattle.std.specs.Float.Ieee.{eq}
use Rattle.doubles.specs.Num.{◌⊖◌, ◌⊘◌, #0, #1, at, finite, pick, ◌and◌, ◌or◌}
use Rattle.doubles.specs.Steps.{all, largest, tab, Stage, going, bad, upto}
use Rattle.penalties.specs.Penalty.{prox, violation}
use Rattle.penalties.specs.declared.separable.Penalty.{Penalty}
use Rattle.designs.specs.Design.{Design, design, gradient, moved, finite_at}
use Rattle.designs.specs.declared.Shape.{Shape}

-- what a solve is given beside targets and settings: a design of n samples and p features, the penalty, and the numbers that were prepared, p
-- constants and then X'y
pub record Task : Type 0 where
  pub n : ℕ
  pub p : ℕ
  pub X : Design
  pub penalty : Penalty
  pub prepared : List Float

abbrev pub task : Shape → List ℕ → List ℕ → List Float → Penalty → List Float → Task
task s starts rows values penalty prepared =
    record { n = s.n; p = s.p; X = design s starts rows values; penalty = penalty; prepared = prepared }

abbrev pub constant : Task → ℕ → Float
constant T j = at T.prepared j

unfoldable pub gradient_of : Task → List Float → ℕ → Float
gradient_of T fit j = gradient T.X j fit (at T.prepared (T.p + j))

unfoldable pub violation_of : Task → List Float → List Float → ℕ → Float
violation_of T w fit j = violation T.penalty (at w j) (gradient_of T fit j)

-- ---- violations
-- 7: "gradient, violation .. is not finite"
unfoldable pub known : Task → List Float → List Float → ℕ → Bool
known T w fit j = finite (gradient_of T fit j) and finite (violation_of T w fit j)

unfoldable pub all_known : Task → List Float → List Float → Bool
all_known T w fit = all (known T w fit) T.p

unfoldable pub violations : Task → List Float → List Float → List Float
violations T w fit = tab (violation_of T w fit) T.p

-- "The largest violation is folded from minus infinity"; `largest` keeps a NaN
unfoldable pub worst : Task → List Float → List Float → Float
worst T w fit = largest (violation_of T w fit) T.p

-- the same over a working set, in its order
unfoldable pub known_in : Task → List ℕ → List Float → List Float → Bool
known_in T ws w fit = all (λ i. known T w fit (get_or ws i 0)) (length ws)

unfoldable pub worst_in : Task → List ℕ → List Float → List Float → Float
worst_in T ws w fit = largest (λ i. violation_of T w fit (get_or ws i 0)) (length ws)

-- ---- visits
pub record Point : Type 0 where
  pub weights : List Float
  pub fit : List Float

-- "w becomes prox(w − g/L, 1/L)"
unfoldable pub new_weight : Task → Point → ℕ → Float
new_weight T s j = prox T.penalty (at s.weights j ⊖ gradient_of T s.fit j ⊘ constant T j) (#1 ⊘ constant T j)

-- "if the difference is nonzero the fit gains difference·x"
unfoldable pub moved_by : Design → ℕ → Float → List Float → List Float
moved_by X j d fit = pick (eq d #0) fit (moved X j d fit)

-- every "changed fit entry" is finite, where there was a difference
unfoldable pub moved_finite : Design → ℕ → Float → List Float → Bool
moved_finite X j d fit = eq d #0 or finite_at X j (moved X j d fit)

-- 7: "gradient, .. new weight or changed fit entry is not finite"
unfoldable pub fine : Task → Point → ℕ → Bool
fine T s j =
    finite (gradient_of T s.fit j) and finite (new_weight T s j) and moved_finite T.X j (new_weight T s j ⊖ at s.weights j) s.fit

unfoldable pub visited : Task → Point → ℕ → Point
visited T s j = record {
  weights = set s.weights j (new_weight T s j);
  fit = moved_by T.X j (new_weight T s j ⊖ at s.weights j) s.fit;
}

unfoldable pub visit : Task → ℕ → Point → Stage Point
visit T j s = pick (eq (constant T j) #0) (going s) (pick (fine T s j) (going (visited T s j)) bad)

unfoldable pub visits : Task → List ℕ → Point → Stage Point
visits T ws s = upto (λ i. visit T (get_or ws i 0)) (length ws) s
