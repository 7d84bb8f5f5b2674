-- Extrapolation: "the weights are kept as row epoch mod (K+1) and the step of the next paragraph is tried". Row r of what is kept holds, from place
-- r·p on, the weights of the working set in its order.
use Rattle.std.specs.Prelude.{Bool, List, ℕ, suc, ◌+◌, ◌*◌, ◌%◌, eqb, ltb, length, get_or, set, Float}
use Rattle.std.specs.Float.Ieee.{lt}
use Rattle.doubles.specs.Num.{◌⊕◌, ◌⊖◌, ◌⊗◌, ◌⊘◌, #0, #1, at, finite, pick, ◌and◌}
use Rattle.doubles.specs.Steps.{steps, sum, tab, all}
use Rattle.doubles.specs.Buffer.{put}
use Rattle.elimination.specs.Elimination.{Matrix, eliminated, regular, read_off}
use Rattle.penalties.specs.Penalty.{value}
use Rattle.penalties.specs.declared.separable.Penalty.{Penalty}
use Rattle.designs.specs.Design.{datafit, extrapolated}
use Rattle.definition.specs.Epoch.{Task, Point}

-- ---- what is kept
abbrev pub gathered : List ℕ → List Float → List Float
gathered ws w = tab (λ i. at w (get_or ws i 0)) (length ws)

unfoldable pub kept_now : ℕ → ℕ → ℕ → List ℕ → List Float → List Float → List Float
kept_now K p e ws w kept = put kept ((e % suc K) * p) (gathered ws w)

-- ---- "the matrix should pair the K steps with each other: entry (k,l) is the sum over the working set of U[k,j]·U[l,j]"
-- "U holds the K successive row differences", a step each, here at place i of the working set
abbrev pub U : ℕ → List Float → ℕ → ℕ → Float
U p kept k i = at kept (suc k * p + i) ⊖ at kept (k * p + i)

-- over its m places in their order, columns that are skipped for their constant too
unfoldable pub entry : ℕ → ℕ → List Float → ℕ → ℕ → Float
entry p m kept k l = sum (λ i. U p kept k i ⊗ U p kept l i) m

-- row k, its right-hand side 1 at place K; places past it are never looked at
unfoldable pub system_row : ℕ → ℕ → ℕ → List Float → ℕ → List Float
system_row K p m kept k = tab (λ l. pick (ltb l K) (entry p m kept k l) (pick (eqb l K) #1 #0)) 11

unfoldable pub system : ℕ → ℕ → ℕ → List Float → Matrix
system K p m kept = tab (λ k. pick (ltb k K) (system_row K p m kept k) (tab (λ l. #0) 11)) 10

-- ---- "With z the solution and c = z/Σz, the candidate is the sum of c_k·row_k for the first K rows, zero elsewhere"
unfoldable pub coefficients : ℕ → List Float → List Float
coefficients K z = tab (λ k. pick (ltb k K) (at z k ⊘ sum (at z) K) #0) 10

-- the first K rows, not the newest
unfoldable pub combined : ℕ → ℕ → List Float → List Float → ℕ → Float
combined K p kept c i = sum (λ k. at c k ⊗ at kept (k * p + i)) K

unfoldable pub candidate : ℕ → ℕ → List ℕ → List Float → List Float → List Float
candidate K p ws kept c = steps (λ i w. set w (get_or ws i 0) (combined K p kept c i)) (length ws) (tab (λ j. #0) p)

-- ---- "It replaces weights and fit exactly when its objective (datafit + penalty) is strictly smaller and every candidate weight and fit entry is
-- finite": one of equal objective is not taken
unfoldable pub objective_of : Penalty → List Float → List Float → List Float → Float
objective_of penalty y w fit = datafit y fit (length y) ⊕ value penalty w

abbrev pub objective : Task → List Float → Point → Float
objective T y s = objective_of T.penalty y s.weights s.fit

unfoldable pub all_finite : List Float → Bool
all_finite xs = all (λ i. finite (at xs i)) (length xs)

unfoldable pub better : Task → List Float → Point → Point → Bool
better T y new old = lt (objective T y new) (objective T y old) and all_finite new.weights and all_finite new.fit

-- a point, and how many extrapolations were accepted on the way to it
pub record Tried : Type 0 where
  pub point : Point
  pub taken : ℕ

abbrev pub keeps : Point → Tried
keeps s = record { point = s; taken = 0 }

unfoldable pub chosen : Task → List Float → Point → Point → Tried
chosen T y new old = pick (better T y new old) (record { point = new; taken = 1 }) (keeps old)

unfoldable pub point_of : Task → List ℕ → List Float → Point
point_of T ws w = record { weights = w; fit = extrapolated T.X ws w }

-- the candidate of a solution z
unfoldable pub candidate_of : Task → ℕ → List ℕ → List Float → List Float → Point
candidate_of T K ws kept z = point_of T ws (candidate K T.p ws kept (coefficients K z))

-- of the system m that was eliminated; "any zero on the final diagonal means singular": no candidate
unfoldable pub from_system : Task → List Float → ℕ → List ℕ → List Float → Point → Matrix → Tried
from_system T y K ws kept s m = pick (regular K m) (chosen T y (candidate_of T K ws kept (read_off K m)) s) (keeps s)

unfoldable pub extrapolate : Task → List Float → ℕ → List ℕ → List Float → Point → Tried
extrapolate T y K ws kept s = from_system T y K ws kept s (eliminated K (system K T.p (length ws) kept))

-- "When epoch mod (K+1) = K"; and "the skip for fewer than K places goes away"
unfoldable pub due : ℕ → ℕ → Bool
due K e = eqb (e % suc K) K

unfoldable pub tried : Task → List Float → ℕ → ℕ → List ℕ → List Float → Point → Tried
tried T y K e ws kept s = pick (due K e) (extrapolate T y K ws kept s) (keeps s)
